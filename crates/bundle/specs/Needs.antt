-- What the steps ask: two ends that were checked, and room.
use Rattle.std.specs.Prelude.{ℕ, ◌≤◌, ◌≡◌, false}
use Rattle.std.proofs.Math.Option.{none}
use Rattle.mesh.specs.Kinds.{kind_of, mesh_of}
use Rattle.mesh.specs.Says.{bundle_against, bundle_short}
use Rattle.mesh.specs.Requests.{Ends}

-- room for k ends, one for each link
pub record Pair (kind size s t k ends-lent : ℕ) : Type 0 where
  pub ends : Ends (kind_of kind) size s t
  pub links : k ≡ (mesh_of kind size).links
  pub room : k ≤ ends-lent

pub record Layable (kind size s t places counts : ℕ) : Type 0 where
  pub clear : bundle_against (kind_of kind) size s t false ≡ none
  pub room : bundle_short (mesh_of kind size) places counts ≡ false
