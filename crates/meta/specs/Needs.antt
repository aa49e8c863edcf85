-- What the inner functions ask, and that two relays of a metacube are `Fine`, as is a pair which nothing stands against (`fine_checked`). Assumes nothing.
use Rattle.std.specs.Prelude.{ℕ, ◌*◌, ◌^◌, ◌≤◌, ◌<◌, ◌≡◌, false, ◌≢◌, Result, Ok, ⊤}
use Rattle.std.proofs.Common.{sym, ap, ◌∙◌}
use Rattle.answers.specs.Told.{against}
use Rattle.answers.specs.declared.Refusal.{Refusal}
use Rattle.requests.specs.Ways.{Between, between}
use Rattle.meta_parts.specs.Meta.{known, metacube}
use Rattle.meta_parts.specs.Needs.{Fine}
use Rattle.meta.specs.Says.{pair_against, hops}

pub fine : {n s t : ℕ} → Between (known n) (metacube n) s t → Fine n s t
fine b = record { size = b.there-is; source = b.source; target = b.target }

pub fine_checked : (n s t : ℕ) {r : Result ⊤ Refusal} → r ≡ Ok tt → against r ≡ pair_against n s t false → Fine n s t
fine_checked n s t f e = fine (between (known n) (metacube n) s t (sym (ap against f) ∙ e))

-- a class of at most 3 bits
pub record Class (k c : ℕ) : Type 0 where
  pub few : k ≤ 3
  pub below : c < 2 ^ k

-- a part of m bits that stands in a word
pub record Part (m c : ℕ) : Type 0 where
  pub narrow : m < 64
  pub within : m * c < 64

-- two relays that are not the same
pub record Apart (n u t : ℕ) : Type 0 where
  pub fine : Fine n u t
  pub other : u ≢ t

-- there are more places than hops from s to t
pub record Room (n s t places : ℕ) : Type 0 where
  pub fine : Fine n s t
  pub room : hops n s t < places
