-- What the reader's functions ask: a head that was read (`Bodied`), and paths that were looked through, with room for them (`Judgeable`).
-- Assumes nothing.
use Rattle.std.specs.Prelude.{ℕ, ◌≡◌, List}
use Rattle.std.proofs.Math.Option.{none}
use Rattle.mesh.specs.Kinds.{mesh_of}
use Rattle.sheet.specs.Format.{kind_at, size_at, count_at, source_at}
use Rattle.sheet_take.specs.Needs.{Taken}
use Rattle.sheet_check.specs.Says.{head_against}

-- nothing is wrong with the head, and this is what it tells
pub record Bodied (v : ℕ) (l : List ℕ) (kind size s k : ℕ) : Type 0 where
  pub head : head_against v l ≡ none
  pub kind_is : kind ≡ kind_at l
  pub size_is : size ≡ size_at l
  pub source_is : s ≡ source_at l
  pub count_is : k ≡ count_at l

-- k paths of a mesh were looked through, and there is room for them
pub record Judgeable (v : ℕ) (l : List ℕ) (kind size longest k places counts targets : ℕ) : Type 0 where
  pub wide : longest ≡ (mesh_of kind size).longest
  pub taken : Taken v l longest k places counts targets
