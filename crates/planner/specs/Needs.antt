-- What laying a fan asks: a request that was checked, and room for its paths.
use Rattle.std.specs.Prelude.{ℕ, ◌≡◌, false, List, length}
use Rattle.std.proofs.Math.Option.{none}
use Rattle.mesh.specs.Kinds.{kind_of, mesh_of}
use Rattle.mesh.specs.Says.{planned_against, short}

pub record Layable (kind size s : ℕ) (targets : List ℕ) (places counts : ℕ) : Type 0 where
  pub clear : planned_against (kind_of kind) size s targets false ≡ none
  pub room : short (mesh_of kind size) (length targets) places counts ≡ false
