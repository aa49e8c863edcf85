-- The library's test of a list's elements is the one that the rules use (`has-is`). Assumes nothing.
use Rattle.std.specs.Prelude.{ℕ, zero, suc, ◌+◌, ◌≡◌, refl, Bool, true, false, ◌||◌, List, eqb, length, get_or, drop}
use Rattle.std.specs.List.{list_any}
use Rattle.std.proofs.Common.{sym, ap, ◌∙◌, arith, drop-cons}
use Rattle.std.proofs.lemmas.List.{drop_all}
use Rattle.scan.specs.Scan.{Spot, at, found, pick, seek, any, among, has}

-- whether a number is x
abbrev is : ℕ → ℕ → Bool
is x y = eqb y x

found_pick : (b : Bool) (i : ℕ) (s : Spot) → (b || found s) ≡ found (pick b (at i) s)
found_pick true i s = refl
found_pick false i s = refl

from_place : (l : List ℕ) (x i n : ℕ) → i + n ≡ length l → list_any (is x) (drop i l) ≡ any (λ j. is x (get_or l j 0)) i n
unfolding any seek
from_place l x i zero h = ap (list_any (is x)) (drop_all i l (omega arith))
from_place l x i (suc n) h =
    ap (list_any (is x)) (drop-cons l i 0 (omega arith))
    ∙ ap (λ (b : Bool). is x (get_or l i 0) || b) (from_place l x (suc i) n (omega arith))
    ∙ found_pick (is x (get_or l i 0)) i (seek (λ j. is x (get_or l j 0)) (suc i) n)

pub has-is : (l : List ℕ) (x : ℕ) {r b : Bool} → r ≡ list_any (λ y. eqb y x) l → r ≡ b → has l x ≡ b
unfolding has among
has-is l x e z = sym (from_place l x 0 (length l) (omega arith)) ∙ sym e ∙ z
