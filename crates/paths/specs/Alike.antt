-- Lists that are the same so far (`Same`): such slices have the same first finding (`finding_alike` in proofs/Alike). Definitions; assumes nothing.
use Prim.Native.Nat.{ℕ, ◌<◌}
use Rattle.std.specs.Prelude.{◌≡◌, List, get_or}

-- the first n numbers are the same
abbrev pub Same : ℕ → List ℕ → List ℕ → Type 0
Same n l r = (j : ℕ) → j < n → get_or l j 0 ≡ get_or r j 0
