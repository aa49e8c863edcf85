-- Numbers as bytes, the highest byte first: the bytes of a number (`big`), and the number that bytes are (`number`). Each undoes the other
-- (`number-big`, `big-number`). Assumes nothing.
use Rattle.std.specs.Prelude.{ℕ, zero, suc, ◌+◌, ◌*◌, ◌/◌, ◌%◌, ◌^◌, ◌≤◌, ◌<◌, ◌≡◌, refl, List, [], ◌∷◌, ◌++◌, length, get_or, take, drop}
use Rattle.std.proofs.Common.{sym, ap, ap₂, ◌∙◌, subst, append_assoc, div-add-mod', div-lt_iff_lt-mul, pow-suc, zero-add, arith, length-append, length-drop, take-suc, get_or-drop}
use Rattle.std.proofs.lemmas.List.{get_or_at}
use Rattle.std.proofs.Math.Arith.{digits_div, digits_mod, digits_lt}

-- the w lowest bytes of v
unfoldable pub big : (w v : ℕ) → List ℕ
big zero v = []
big (suc w) v = big w (v / 256) ++ (v % 256 ∷ [])

-- the number that w bytes from the place `at` on are
unfoldable pub number : (l : List ℕ) (at w : ℕ) → ℕ
number l at zero = 0
number l at (suc w) = number l at w * 256 + get_or l (at + w) 0

-- numbers that are bytes
abbrev pub Bytes : List ℕ → Type 0
Bytes l = (i : ℕ) → get_or l i 0 < 256

pub big-length : (w v : ℕ) → length (big w v) ≡ w
unfolding big
big-length zero v = refl
big-length (suc w) v = length-append (big w (v / 256)) (v % 256 ∷ []) ∙ omega (arith, big-length w (v / 256))

-- ---- one byte more

pub big-more : (w v : ℕ) → big (suc w) v ≡ big w (v / 256) ++ (v % 256 ∷ [])
unfolding big
big-more w v = refl

pub number-none : (l : List ℕ) (at : ℕ) → number l at 0 ≡ 0
unfolding number
number-none l at = refl

pub number_more : (l : List ℕ) (at w : ℕ) → number l at (suc w) ≡ number l at w * 256 + get_or l (at + w) 0
unfolding number
number_more l at w = refl

pub number-below : (l : List ℕ) → Bytes l → (at w : ℕ) → number l at w < 256 ^ w
unfolding number
number-below l b at zero = omega arith
number-below l b at (suc w) =
    subst (λ (x : ℕ). number l at w * 256 + get_or l (at + w) 0 < x) (sym (pow-suc 256 w)) (digits_lt (number-below l b at w) (b (at + w)))

-- ---- where the bytes stand

pub number_cong : (l r : List ℕ) (at from w : ℕ) → ((j : ℕ) → j < w → get_or l (at + j) 0 ≡ get_or r (from + j) 0) → number l at w ≡ number r from w
unfolding number
number_cong l r at from zero h = refl
number_cong l r at from (suc w) h = ap₂ (λ (x y : ℕ). x * 256 + y) (number_cong l r at from w (λ j g. h j (omega arith))) (h w (omega arith))

-- ---- each undoes the other

pub number-big : (w v : ℕ) → v < 256 ^ w → (l : List ℕ) → number (big w v ++ l) 0 w ≡ v
unfolding number big
number-big zero v h l = omega arith
number-big (suc w) v h l =
    let q = v / 256 in
    let less : q < 256 ^ w = (div-lt_iff_lt-mul {k = 256} {x = v} {y = 256 ^ w} (omega arith)).1 (subst (λ (x : ℕ). v < x) (pow-suc 256 w) h) in
    ap (λ (x : List ℕ). number x 0 w * 256 + get_or x (0 + w) 0) (append_assoc (big w q) (v % 256 ∷ []) l)
    ∙ ap₂ (λ (x y : ℕ). x * 256 + y) (number-big w q less (v % 256 ∷ l)) (get_or_at (big w q) (v % 256) l 0 (0 + w) (big-length w q ∙ sym (zero-add w)))
    ∙ div-add-mod' v 256

pub big-number : (l : List ℕ) → Bytes l → (at w : ℕ) → at + w ≤ length l → big w (number l at w) ≡ take w (drop at l)
unfolding number big
big-number l b at zero h = refl
big-number l b at (suc w) h =
    let x = number l at w in
    let y = get_or l (at + w) 0 in
    ap₂ (λ (q r : ℕ). big w q ++ (r ∷ [])) (digits_div x (b (at + w))) (digits_mod x (b (at + w)))
    ∙ ap₂ (λ (u : List ℕ) (r : ℕ). u ++ (r ∷ [])) (big-number l b at w (omega arith)) (sym (get_or-drop at l w 0))
    ∙ sym (take-suc (drop at l) w 0 (omega (arith, length-drop at l)))
