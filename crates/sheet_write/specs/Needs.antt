-- What the writer of a fan's sheet asks: paths, each in its places, of a mesh that is planned (`Sheeted`). Assumes nothing.
use Rattle.std.specs.Prelude.{ℕ, ◌≡◌, true, List}
use Rattle.paths.specs.Mesh.{width}
use Rattle.mesh.specs.Kinds.{mesh_of, known, planned}
use Rattle.sheet_put.specs.Needs.{Paths}

-- the paths of a mesh that is planned
pub record Sheeted (kind size k places : ℕ) (counts : List ℕ) : Type 0 where
  pub known : known kind size ≡ true
  pub planned : planned kind size ≡ true
  pub paths : Paths (width (mesh_of kind size)) k places counts
