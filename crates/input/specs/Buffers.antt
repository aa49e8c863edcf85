-- A buffer whose end is read into keeps its length (`read_long`), and what came lies in it (`read_within`); a line end in what came is one in the buffer (`end_within`), and where none came there is none (`no_end_within`), as the library's search tells it (`end_is`), nor after a read behind it (`no_end_kept`). Assumes nothing.
use Rattle.std.specs.Prelude.{ℕ, ◌+◌, ◌-◌, ◌≤◌, ◌<◌, ◌≡◌, Bool, true, false, List, eqb, length, get_or, take, drop}
use Rattle.std.specs.List.{list_any}
use Rattle.std.proofs.Common.{sym, ap, ◌∙◌, arith, length-take, length-drop, length-take-le, get_or-take}
use borrow.Rule.Slice.PartMut.{put_mid, mid_of, same_len_mid}
use Rattle.scan.specs.Scan.{any}
use Rattle.scan.specs.Laws.{any-true, true-any, any_false, false-any}
use Rattle.line.specs.Listed.{listed}
use Rattle.input.specs.Says.{is_end}

module _ (n : ℕ) (buf last : List ℕ) (within : n ≤ length buf) (kept : length last ≡ length (mid_of n (length buf - n) buf)) where
  pub read_long : length (put_mid n (length buf - n) buf last) ≡ length buf
  read_long = same_len_mid n (length buf - n) buf last kept

  pub read_within : {got : ℕ} → got ≤ length last → n + got ≤ length (put_mid n (length buf - n) buf last)
  read_within h = omega (arith, read_long, kept, length-take (length buf - n) (drop n buf), length-drop n buf)

pub part_long : (n : ℕ) (l : List ℕ) → n ≤ length l → n ≡ length (take n l)
part_long n l h = sym (length-take-le n l h)

-- a line end in what came is one in the buffer
pub end_within : (n : ℕ) (l : List ℕ) {r : Bool} → n ≤ length l → r ≡ any (is_end (take n l)) 0 (length (take n l)) → r ≡ true → any (is_end l) 0 n ≡ true
end_within n l h e t =
    let f = any-true (is_end (take n l)) 0 (length (take n l)) (sym e ∙ t) in
    let near : f.0 < n = omega (arith, f.2, length-take-le n l h) in
    true-any (is_end l) 0 n f.0 (omega arith) (omega arith) (ap (λ (x : ℕ). eqb x 10) (sym (get_or-take n l f.0 0 near)) ∙ f.3)

-- where no line end came there is none in the buffer
pub no_end_within : (n : ℕ) (l : List ℕ) {r : Bool} → n ≤ length l → r ≡ any (is_end (take n l)) 0 (length (take n l)) → r ≡ false → any (is_end l) 0 n ≡ false
no_end_within n l h e f = false-any (is_end l) 0 n (λ j a near. ap (λ (x : ℕ). eqb x 10) (sym (get_or-take n l j 0 (omega arith))) ∙ any_false (is_end (take n l)) 0 (length (take n l)) (sym e ∙ f) j (omega arith) (omega (arith, length-take-le n l h)))

-- what the library's search says of a line end in what came
pub end_is : (n : ℕ) (l : List ℕ) {r x : Bool} → n ≤ length l → r ≡ list_any (λ b. eqb b 10) (take n l) → r ≡ x → any (is_end l) 0 n ≡ x
end_is n l h e f = sym (listed (λ b. eqb b 10) l 0 n (omega arith)) ∙ sym e ∙ f

-- nor after a read behind it
pub no_end_kept : (n : ℕ) (l m : List ℕ) → take n m ≡ take n l → any (is_end l) 0 n ≡ false → any (is_end m) 0 n ≡ false
no_end_kept n l m same f = false-any (is_end m) 0 n (λ j a near. ap (λ (x : ℕ). eqb x 10) (sym (get_or-take n m j 0 (omega arith)) ∙ ap (λ (t : List ℕ). get_or t j 0) same ∙ get_or-take n l j 0 (omega arith)) ∙ any_false (is_end l) 0 n f j (omega arith) (omega arith))
