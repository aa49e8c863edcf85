-- What the inner functions ask, and that two relays of a mesh are `Fine`, as is a pair which nothing stands against (`fine_checked`). Assumes nothing.
use Rattle.std.specs.Prelude.{ℕ, ◌≤◌, ◌<◌, ◌≡◌, false, Result, Ok, ⊤}
use Rattle.std.proofs.Common.{sym, ap, ◌∙◌}
use Rattle.answers.specs.Told.{against}
use Rattle.answers.specs.declared.Refusal.{Refusal}
use Rattle.requests.specs.Ways.{Between, between}
use Rattle.two_parts.specs.Two.{known, slots, blocks, two}
use Rattle.two_parts.specs.Needs.{Fine}
use Rattle.two.specs.Next.{hops}
use Rattle.two.specs.Says.{pair_against}

pub fine : {m s t : ℕ} → Between (known m) (two m) s t → Fine m s t
fine b = record { order = b.there-is; source = b.source; target = b.target }

pub fine_checked : (m s t : ℕ) {r : Result ⊤ Refusal} → r ≡ Ok tt → against r ≡ pair_against m s t false → Fine m s t
fine_checked m s t f e = fine (between (known m) (two m) s t (sym (ap against f) ∙ e))

-- the bits in which two blocks differ
pub record Differ (m x : ℕ) : Type 0 where
  pub order : m ≤ 5
  pub below : x < blocks m

-- two slots
pub record Slots (m p q : ℕ) : Type 0 where
  pub order : m ≤ 5
  pub from : p < slots m
  pub to : q < slots m

-- there are more places than hops from s to t
pub record Room (m s t places : ℕ) : Type 0 where
  pub fine : Fine m s t
  pub room : hops m s t < places
