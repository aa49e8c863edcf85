-- Which sizes are known, test by test (`known_small`, `known-not_small`); a known size has at most 32 dimensions (`known-most`), and no path of its cube is long
-- (`short`). Assumes nothing.
use Rattle.std.specs.Prelude.{ℕ, ◌≤◌, ◌<◌, ◌≡◌, refl, Bool, true, false, leb}
use Rattle.std.proofs.Common.{sym, ◌∙◌, arith, leb-true, le-leb}
use Rattle.std.proofs.lemmas.Bool.{lt-leb}
use Rattle.scan.specs.Scan.{pick}
use Rattle.scan.specs.Laws.{true-false}
use Rattle.cube.specs.Cube.{known, cube}

-- which sizes are known, test by test
pub known_small : (n : ℕ) → n < 1 → false ≡ known n
known_small n h = simp (lt-leb 1 n h)

pub known-not_small : (n : ℕ) → 1 ≤ n → leb n 32 ≡ known n
known-not_small n h = simp (le-leb 1 n h)

-- a size whose flag is true has at most 32 dimensions
pub known-most : {r : Bool} (n : ℕ) → r ≡ known n → r ≡ true → n ≤ 32
known-most n e t = go (leb 1 n) (leb n 32) refl (sym e ∙ t)
  where
    go : (a b : Bool) → b ≡ leb n 32 → pick a b false ≡ true → n ≤ 32
    go true b e t = leb-true n 32 (sym e ∙ t)
    go false b e t = absurd (true-false t refl)

-- no path of a known cube is long
pub short : (n : ℕ) → known n ≡ true → (cube n).longest < 207
short n e = omega (arith, known-most n refl e)
