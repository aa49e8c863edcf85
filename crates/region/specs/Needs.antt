-- What the functions behind the planner's call ask.
use Rattle.std.specs.Prelude.{ℕ, ◌*◌, ◌%◌, ◌≤◌, ◌≡◌, false, List, ltb, length}
use Rattle.std.proofs.Math.Option.{none}
use Rattle.scan.specs.Scan.{pick}
use Rattle.paths.specs.Mesh.{width}
use Rattle.mesh.specs.Kinds.{kind_of, mesh_of}
use Rattle.mesh.specs.Says.{planned_against}
use Rattle.region.specs.Says.{most}

-- a request that nothing stands against, and room for its sheet
pub record Sound (kind size s : ℕ) (targets : List ℕ) (out : ℕ) : Type 0 where
  pub clear : planned_against (kind_of kind) size s targets false ≡ none
  pub long : most (mesh_of kind size) (length targets) ≤ out

-- and room for its paths
pub record Layable (kind size s : ℕ) (targets : List ℕ) (places counts out : ℕ) : Type 0 where
  pub sound : Sound kind size s targets out
  pub placed : length targets * width (mesh_of kind size) ≤ places
  pub counted : length targets ≤ counts

-- how many of n targets are looked at
abbrev pub few : ℕ → ℕ
few n = pick (ltb n 33) n 33

-- bytes that are numbers of 8 bytes
abbrev pub Whole : List ℕ → Type 0
Whole l = length l % 8 ≡ 0

pub record Lent (l : List ℕ) (list : ℕ) : Type 0 where
  pub whole : Whole l
  pub listed : 33 ≤ list
