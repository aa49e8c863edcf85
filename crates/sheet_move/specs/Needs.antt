-- What moving the paths of a sheet asks: it was checked, and there is room for them (`Movable`). Assumes nothing.
use Rattle.std.specs.Prelude.{ℕ, ◌≤◌, ◌≡◌, List}
use Rattle.std.proofs.Math.Option.{none}
use Rattle.mesh.specs.Kinds.{mesh_of}
use Rattle.sheet.specs.Format.{kind_at, size_at, count_at, source_at}
use Rattle.sheet_take.specs.Needs.{Taken}
use Rattle.sheet_check.specs.Says.{check_against}

pub record Movable (v : ℕ) (l : List ℕ) (kind size s longest k places counts targets zones : ℕ) : Type 0 where
  pub sound : check_against v l ≡ none
  pub kind_is : kind ≡ kind_at l
  pub size_is : size ≡ size_at l
  pub source_is : s ≡ source_at l
  pub count_is : k ≡ count_at l
  pub wide : longest ≡ (mesh_of kind size).longest
  pub taken : Taken v l longest k places counts targets
  pub zoned : k ≤ zones
