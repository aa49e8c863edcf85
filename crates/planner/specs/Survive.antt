-- What failures leave of a plan, from the request to the count: at least as many whole paths as there are paths, less the different relays that have stopped and
-- the different links that are cut (`plan_survives`). Assumes nothing.
use Rattle.std.specs.Prelude.{ℕ, ◌+◌, ◌≤◌, ◌≡◌, Bool, false, List, length, Result, ⊤}
use Rattle.answers.specs.declared.Refusal.{Refusal}
use Rattle.std.proofs.Common.{sym, ◌∙◌}
use Rattle.std.proofs.Math.Option.{none}
use Rattle.answers.specs.Told.{against}
use Rattle.scan.specs.Scan.{count, has}
use Rattle.paths.specs.Mesh.{width}
use Rattle.paths.specs.Whole.{Failed, failures, whole}
use Rattle.paths.proofs.Survive.{fan_survives}
use Rattle.requests.specs.Planned.{Planned, planned-against}
use Rattle.mesh.specs.Kinds.{Kind}
use Rattle.mesh.specs.Says.{planned_against}
use Rattle.mesh.specs.Requests.{plan_passed}

pub plan_survives : (K : Kind) (n s : ℕ) (targets : List ℕ) (room : Bool) (places counts : List ℕ) {r : Result ⊤ Refusal} (places₁ counts₁ : List ℕ)
    → Planned (planned_against K n s targets room) (K.mesh n) s targets places counts r places₁ counts₁ → against r ≡ none
    → (f : Failed) → has f.stopped s ≡ false
    → length targets ≤ count (whole (width (K.mesh n)) places₁ counts₁ f) (length targets) + failures (K.mesh n) f
plan_survives K n s targets room places counts places₁ counts₁ p e f h =
    let granted = sym (planned-against p) ∙ e in
    fan_survives (K.mesh n) s targets places₁ counts₁ (p.paths granted) (plan_passed K n s targets room granted).0.sound.source f h
