-- What the three columns of the paths of a fan or a bundle hold: their targets, their hops, and which of them are whole (`Columns`); what stood behind
-- those places stays. Definitions; assumes nothing.
use Rattle.std.specs.Prelude.{ℕ, zero, suc, ◌≡◌, Bool, List, [], ◌∷◌, ◌++◌, length, take, drop}
use Rattle.scan.specs.Scan.{pick, count}
use Rattle.paths.specs.Whole.{Failed, whole}
use Rattle.mesh.specs.Kinds.{Kind}

-- how many paths a bundle has: as many as a relay has links, and none where there is no such mesh
abbrev pub bundle_paths : (K : Kind) (n : ℕ) → ℕ
bundle_paths K n = pick (K.known n) (K.mesh n).links 0

-- a column of k entries at the front of what was there
abbrev pub ahead : {X : Type 0} (k : ℕ) (column was : List X) → List X
ahead k column was = column ++ drop k was

-- 1 for each number below n at which the test holds, and 0 for each other
unfoldable pub marks : (ℕ → Bool) → ℕ → List ℕ
marks test zero = []
marks test (suc n) = marks test n ++ (pick (test n) 1 0 ∷ [])

-- the count and the columns of the paths to the targets, of w places each: the targets, the hops, and which paths are whole
pub record Columns (w : ℕ) (targets places counts : List ℕ) (fails : Failed) (ends hops wholes : List ℕ) (r : ℕ) (ends₁ hops₁ wholes₁ : List ℕ) : Type 0 where
  pub counted : r ≡ count (whole w places counts fails) (length targets)
  pub ended : ends₁ ≡ ahead (length targets) targets ends
  pub hopped : hops₁ ≡ ahead (length targets) (take (length targets) counts) hops
  pub marked : wholes₁ ≡ ahead (length targets) (marks (whole w places counts fails) (length targets)) wholes
