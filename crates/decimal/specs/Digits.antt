-- The decimal numeral of a number as ASCII text, without leading zeros (`digits`): of 207 it is 50 48 55. Assumes nothing.
--
-- `digits-one`, `digits_more`: its digits from the right. `digits-longer`: one digit more behind it. `digits-short`: how many there are.
use Rattle.std.specs.Prelude.{ℕ, zero, suc, ◌+◌, ◌*◌, ◌/◌, ◌%◌, ◌^◌, ◌≤◌, ◌<◌, ◌≡◌, refl, Bool, true, false, List, [], ◌∷◌, ◌++◌, ltb, length}
use Rattle.std.proofs.Common.{sym, ap, ◌∙◌, ⊎_elim, arith, div-lt_iff_lt-mul, div-add-mod', length-append, ltb-true, ltb-false, lt-ltb, le-ltb}
use Rattle.std.proofs.Math.Nat.{div-lt_self, mul-add-div_right, div-eq_of_lt}
use Rattle.scan.specs.Scan.{pick}
use Rattle.scan.specs.Laws.{true-or}

-- the ASCII code of a digit
abbrev pub glyph : ℕ → ℕ
glyph d = 48 + d

-- the numeral of n; the first number bounds how many digits it has
unfoldable pub spell : ℕ → ℕ → List ℕ
spell zero n = glyph n ∷ []
spell (suc most) n = let rest = spell most (n / 10) in pick (ltb n 10) (glyph n ∷ []) (rest ++ (glyph (n % 10) ∷ []))

unfoldable pub digits : ℕ → List ℕ
digits n = spell n n

worked : digits 207 ≡ 50 ∷ 48 ∷ 55 ∷ []
unfolding digits spell
worked = refl

-- ---- digit by digit

one : (most n : ℕ) → n < 10 → spell most n ≡ glyph n ∷ []
unfolding spell
one zero n h = refl
one (suc most) n h = ap (λ (b : Bool). pick b (glyph n ∷ []) (spell most (n / 10) ++ (glyph (n % 10) ∷ []))) (lt-ltb n 10 h)

more : (most n : ℕ) → 10 ≤ n → spell (suc most) n ≡ spell most (n / 10) ++ (glyph (n % 10) ∷ [])
unfolding spell
more most n h = ap (λ (b : Bool). pick b (glyph n ∷ []) (spell most (n / 10) ++ (glyph (n % 10) ∷ []))) (le-ltb n 10 h)

-- a larger bound makes no difference
enough : (a b n : ℕ) → n ≤ a → n ≤ b → spell a n ≡ spell b n
enough zero b n p q = one zero n (omega arith) ∙ sym (one b n (omega arith))
enough (suc a) zero n p q = one (suc a) n (omega arith) ∙ sym (one zero n (omega arith))
enough (suc a) (suc b) n p q = ⊎_elim
    (λ (t : ltb n 10 ≡ true). let h : n < 10 = ltb-true n 10 t in one (suc a) n h ∙ sym (one (suc b) n h))
    (λ (f : ltb n 10 ≡ false).
    let h : 10 ≤ n = ltb-false n 10 f in
    let less : n / 10 < n = div-lt_self (omega arith) (omega arith) in
    more a n h ∙ ap (λ (l : List ℕ). l ++ (glyph (n % 10) ∷ [])) (enough a b (n / 10) (omega arith) (omega arith)) ∙ sym (more b n h))
    (true-or (ltb n 10))

pub digits-one : (n : ℕ) → n < 10 → digits n ≡ glyph n ∷ []
unfolding digits
digits-one n h = one n n h

pub digits_more : (n : ℕ) → 10 ≤ n → digits n ≡ digits (n / 10) ++ (glyph (n % 10) ∷ [])
unfolding digits
digits_more zero h = absurd (omega arith)
digits_more (suc n) h =
    let less : suc n / 10 < suc n = div-lt_self (omega arith) (omega arith) in
    more n (suc n) h ∙ ap (λ (l : List ℕ). l ++ (glyph (suc n % 10) ∷ [])) (enough n (suc n / 10) (suc n / 10) (omega arith) (omega arith))

-- what stands before the last digit, and the last digit
pub front : (v d : ℕ) → d < 10 → (v * 10 + d) / 10 ≡ v
front v d h = mul-add-div_right {m = 10} (omega arith) v d ∙ ap (λ (x : ℕ). v + x) (div-eq_of_lt h) ∙ omega arith

pub last : (v d : ℕ) → d < 10 → (v * 10 + d) % 10 ≡ d
last v d h = omega (arith, div-add-mod' (v * 10 + d) 10, front v d h)

pub digits-longer : (v d : ℕ) → 0 < v → d < 10 → digits (v * 10 + d) ≡ digits v ++ (glyph d ∷ [])
digits-longer v d p h =
    digits_more (v * 10 + d) (omega arith)
    ∙ ap (λ (x : ℕ). digits x ++ (glyph ((v * 10 + d) % 10) ∷ [])) (front v d h)
    ∙ ap (λ (x : ℕ). digits v ++ (glyph x ∷ [])) (last v d h)

-- ---- how many there are

pub digits-some : (n : ℕ) → 0 < length (digits n)
digits-some n = ⊎_elim
    (λ (t : ltb n 10 ≡ true). omega (arith, ap length (digits-one n (ltb-true n 10 t))))
    (λ (f : ltb n 10 ≡ false).
    omega (arith, ap length (digits_more n (ltb-false n 10 f)), length-append (digits (n / 10)) (glyph (n % 10) ∷ [])))
    (true-or (ltb n 10))

-- a number below 10 ^ (k + 1) has at most k + 1 digits
few : (k n : ℕ) → n < 10 ^ suc k → length (digits n) ≤ suc k
few zero n h = omega (arith, ap length (digits-one n h))
few (suc k) n h = ⊎_elim
    (λ (t : ltb n 10 ≡ true). omega (arith, ap length (digits-one n (ltb-true n 10 t))))
    (λ (f : ltb n 10 ≡ false).
    let rest = few k (n / 10) ((div-lt_iff_lt-mul {k = 10} (omega arith)).1 (omega arith)) in
    omega (arith, rest, ap length (digits_more n (ltb-false n 10 f)), length-append (digits (n / 10)) (glyph (n % 10) ∷ [])))
    (true-or (ltb n 10))

pub digits-short : (n : ℕ) → n < 2 ^ 64 → length (digits n) ≤ 20
digits-short n h = few 19 n (omega arith)
