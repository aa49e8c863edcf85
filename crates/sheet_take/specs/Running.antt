-- Relays taken from bytes, one after another (`relays-run`). Assumes nothing.
use Rattle.std.specs.Prelude.{ℕ, zero, suc, ◌+◌, ◌*◌, ◌≡◌, refl, List, [], ◌∷◌, ◌++◌}
use Rattle.std.proofs.Common.{ap, ◌∙◌, arith}
use Rattle.scan.specs.Runs.{Run}
use Rattle.octets.specs.Big.{number}
use Rattle.sheet.specs.Format.{relays_at}
use Rattle.sheet.specs.Lengths.{relays-count}

relays-more : (l : List ℕ) (at n : ℕ) → relays_at l at (suc n) ≡ relays_at l at n ++ (number l (at + n * 8) 8 ∷ [])
unfolding relays_at
relays-more l at zero = ap (λ (p : ℕ). number l p 8 ∷ []) (omega arith)
relays-more l at (suc n) =
    ap (λ (r : List ℕ). number l at 8 ∷ r) (relays-more l (at + 8) n)
    ∙ ap (λ (p : ℕ). number l at 8 ∷ (relays_at l (at + 8) n ++ (number l p 8 ∷ []))) (omega arith)

pub relays-run : (l : List ℕ) (at : ℕ) → Run (relays_at l at) (λ i. number l (at + i * 8) 8)
unfolding relays_at
relays-run l at = record { none = refl; more = relays-more l at; count = relays-count l at }
