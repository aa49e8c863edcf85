-- The rows of a grid of the two-level planner: 16 rows of 35 places. Assumes nothing.
use Rattle.std.specs.Prelude.{ℕ, zero, suc, ◌+◌, ◌-◌, ◌*◌, ◌≤◌, ◌<◌, min, ◌≡◌, refl, List, ◌∷◌, length, get_or, take, drop}
use Rattle.std.proofs.Common.{sym, ap, ap₂, ◌∙◌, arith, drop-cons}
use Rattle.paths.specs.Lists.{ahead, ahead-at}
use Rattle.cube_rows.specs.Grid as grid

-- the path of row j
abbrev pub hops : List ℕ → ℕ → List ℕ
hops g j = grid.hops 35 g j

pub hops-length : (g : List ℕ) (j : ℕ) → length (hops g j) ≡ min 35 (get_or g (j * 35) 0)
hops-length g j = grid.hops-length 35 g j

-- numbers of a list from a place on
ahead_part : (l : List ℕ) (from n : ℕ) → from + n ≤ length l → ahead l from n ≡ take n (drop from l)
unfolding ahead
ahead_part l from zero h = refl
ahead_part l from (suc n) h =
    let lt : from < length l = omega arith in
    rw (drop-cons l from 0 lt) (ap (λ (y : List ℕ). get_or l from 0 ∷ y) (ahead_part l (suc from) n (omega arith)))

-- the path's numbers are the row's last
pub row_is : (g : List ℕ) (j a e n : ℕ) → length (hops g j) < 34 → n ≡ get_or g (j * 35) 0 → a ≡ e - n → e ≡ j * 35 + 35 → e ≤ length g → take (e - a) (drop a g) ≡ hops g j
unfolding grid.hops
row_is g j a e n few count begin end room =
    let len = hops-length g j in
    let all : min 35 (get_or g (j * 35) 0) ≡ n = omega arith in
    let from : j * 35 + 35 - min 35 (get_or g (j * 35) 0) ≡ a = omega arith in
    let size : e - a ≡ n = omega arith in
    ap (λ (y : ℕ). take y (drop a g)) size ∙ sym (ap₂ (ahead g) from all ∙ ahead_part g a n (omega arith))

-- the relay after i hops
pub hop_is : (g : List ℕ) (j i : ℕ) → length (hops g j) < 34 → i < length (hops g j) → get_or g (j * 35 + (35 - get_or g (j * 35) 0) + i) 0 ≡ get_or (hops g j) i 0
unfolding grid.hops
hop_is g j i few h =
    let len = hops-length g j in
    let place : j * 35 + (35 - get_or g (j * 35) 0) + i ≡ j * 35 + 35 - min 35 (get_or g (j * 35) 0) + i = omega arith in
    ap (λ (y : ℕ). get_or g y 0) place ∙ sym (ahead-at g (j * 35 + 35 - min 35 (get_or g (j * 35) 0)) (min 35 (get_or g (j * 35) 0)) 0 i (omega arith))
