-- The faults of a request's targets, as the code finds them: a fault at a place is told (`told_at`), and no fault leaves what comes after
-- (`told-after`). Assumes nothing.
use Rattle.std.specs.Prelude.{ℕ, ◌≡◌}
use Rattle.std.proofs.Common.{sym, ap}
use Rattle.std.proofs.Math.Option.{Option, some}
use Rattle.scan.specs.Scan.{Spot, nowhere, at}
use Rattle.answers.specs.Order.{refuse-at}
use Rattle.answers.specs.declared.Refusal.{Refusal}

pub told_at : {sp : Spot} {j : ℕ} (why : ℕ → Refusal) (rest : Option Refusal) → sp ≡ at j → some (why j) ≡ refuse-at sp why rest
told_at why rest e = sym (ap (λ (z : Spot). refuse-at z why rest) e)

pub told-after : {sp : Spot} (why : ℕ → Refusal) (rest : Option Refusal) → sp ≡ nowhere → rest ≡ refuse-at sp why rest
told-after why rest e = sym (ap (λ (z : Spot). refuse-at z why rest) e)
