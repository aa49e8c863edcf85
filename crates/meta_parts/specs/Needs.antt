-- What the inner functions ask.
use Rattle.std.specs.Prelude.{ℕ, ◌<◌, ◌≡◌, refl, true}
use Rattle.meta_parts.specs.Meta.{known, metacube, class_bits, part_bits}
use Rattle.meta_parts.specs.Sizes.{Sized, known-sized}

-- nothing against source and target
pub record Fine (n s t : ℕ) : Type 0 where
  pub size : known n ≡ true
  pub source : s < (metacube n).relays
  pub target : t < (metacube n).relays

pub fine-sized : {n s t : ℕ} → Fine n s t → Sized (class_bits n) (part_bits n)
fine-sized {n} f = known-sized n refl f.size
