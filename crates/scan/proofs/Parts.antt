-- A part of a list: the library's test of its elements is the run of tests of `scan` (`any_part`), and numbers put in its place are those of `sets`
-- (`put_part`), as long as the part (`part-length`). Assumes nothing.
use Rattle.std.proofs.Common.{ℕ, zero, suc, ◌+◌, ◌≤◌, ◌≡◌, refl, sym, ap, ◌∙◌, Bool, true, false, ◌||◌, List, ◌++◌, length, get_or, take, drop, nat_eq, eqb, append_assoc, drop-cons, arith}
use Rattle.std.proofs.lemmas.List.{drop-drop, length-drop, length-take-le}
use Rattle.std.proofs.lemmas.List.Edits.{sets, sets-eq}
use borrow.Rule.Slice.PartMut.{put_mid}
use Rattle.std.specs.List.{list_any}
use Rattle.scan.specs.Scan.{Spot, at, found, pick, seek, any}

found_pick : (b : Bool) (i : ℕ) (s : Spot) → (b || found s) ≡ found (pick b (at i) s)
found_pick true i s = refl
found_pick false i s = refl

pub any_part : (l : List ℕ) (x i n : ℕ) → i + n ≤ length l → list_any (λ y. nat_eq y x) (take n (drop i l)) ≡ any (λ j. eqb (get_or l j 0) x) i n
unfolding any seek
any_part l x i zero h = refl
any_part l x i (suc n) h =
    ap (λ (m : List ℕ). list_any (λ y. nat_eq y x) (take (suc n) m)) (drop-cons l i 0 (omega arith))
    ∙ ap (λ (b : Bool). nat_eq (get_or l i 0) x || b) (any_part l x (suc i) n (omega arith))
    ∙ found_pick (eqb (get_or l i 0) x) i (seek (λ j. eqb (get_or l j 0) x) (suc i) n)

pub part-length : (l : List ℕ) (from k : ℕ) → from + k ≤ length l → length (take k (drop from l)) ≡ k
part-length l from k h = length-take-le k (drop from l) (omega (arith, length-drop from l))

pub put_part : (l part : List ℕ) (from k : ℕ) → length part ≡ k → from + k ≤ length l → put_mid from k l part ≡ sets l from part
put_part l part from k e h =
    ap (λ (m : List ℕ). take from l ++ (part ++ m)) (drop-drop k from l ∙ ap (λ (n : ℕ). drop (from + n) l) (sym e))
    ∙ sym (append_assoc (take from l) part (drop (from + length part) l))
    ∙ sym (sets-eq part l from (omega arith))
