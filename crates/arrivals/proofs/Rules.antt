-- A number ahead of the newest, in the form that a proof by tactics uses. Assumes nothing.
use Rattle.std.proofs.Common.{◌≡◌, ℕ, ◌+◌, ◌-◌, ◌%◌, ◌<◌, ◌≤◌, refl, sym}
use Rattle.arrivals.specs.Says.{kept, minus, moved, arrival, Passed}
use Rattle.arrivals.specs.Laws.{arrival-further}
use Rattle.arrivals.specs.declared.Record.{Record}

pub passed_ahead : (r : Record) (x : ℕ) → (r.marks ≡ 0 → ⊥) → r.newest < 65536 → x < 65536 → 64 ≤ (r.newest + (65536 - x)) % 65536 → (x + (65536 - r.newest)) % 65536 ≤ 32767
    → Passed (kept x (moved r.marks ((x + (65536 - r.newest)) % 65536))) ≡ arrival r x
unfolding minus
passed_ahead r x some fits small p q = sym (arrival-further r x some fits small refl refl p q)
