-- A numeral read from the front of a text, as far as its digits go (`number`): from `207 5` it is 207, and ` 5` is left. No numeral, one with a
-- leading zero and one of 2^64 or more are `bad`. Assumes nothing.
--
-- A text that is read as n begins with `digits n`, and no digit follows (`number_sound`); such a text is read as n (`number_complete`).
use Rattle.std.specs.Prelude.{ℕ, zero, suc, ◌+◌, ◌-◌, ◌*◌, ◌/◌, ◌%◌, ◌^◌, ◌≤◌, ◌<◌, ◌≡◌, refl, Bool, true, false, ◌⊎◌, ◌≢◌, List, [], ◌∷◌, ◌++◌, eqb, leb, ltb}
use Rattle.std.proofs.Common.{sym, ap, ◌∙◌, inl, inr, ⊎_elim, append_assoc, arith, div-add-mod', mod-lt, ltb-true, ltb-false, leb-true, leb-false, le-leb, ne_eqb}
use Rattle.std.proofs.Math.Decide.{ℕ_discrete}
use Rattle.std.proofs.Math.Nat.{div-lt_self}
use Rattle.std.proofs.lemmas.Bool.{lt-leb}
use Rattle.scan.specs.Scan.{pick}
use Rattle.scan.specs.Laws.{true-or, true-false}
use Rattle.decimal.specs.Digits.{glyph, digits, digits-one, digits_more, digits-longer}

-- what is read: a number and the text after it, or nothing
pub data Number : Type 0 where
  bad : Number
  got : ℕ → List ℕ → Number

-- whether a byte is a digit
abbrev pub is_digit : ℕ → Bool
is_digit b = pick (leb 48 b) (leb b 57) false

-- whether a text begins with a digit
abbrev pub on_digit : List ℕ → Bool
on_digit [] = false
on_digit (b ∷ l) = is_digit b

-- numbers are below this
abbrev pub limit : ℕ
limit = 2 ^ 64

-- the number with one digit more
abbrev pub longer : ℕ → ℕ → ℕ
longer v b = v * 10 + (b - 48)

-- the number v is read, and its digits go on in the text
unfoldable pub more : ℕ → List ℕ → Number
more v [] = got v []
more v (b ∷ l) = let rest = more (longer v b) l in pick (is_digit b) (pick (leb limit (longer v b)) bad rest) (got v (b ∷ l))

-- the digit b is read: after 0 there is no other
abbrev pub begun : ℕ → List ℕ → Number
begun b l = pick (eqb b 48) (pick (on_digit l) bad (got 0 l)) (more (b - 48) l)

unfoldable pub number : List ℕ → Number
number [] = bad
number (b ∷ l) = pick (is_digit b) (begun b l) bad

-- ---- step by step

digit_glyph : (d : ℕ) → d < 10 → is_digit (glyph d) ≡ true
digit_glyph d h = ap (λ (b : Bool). pick b (leb (48 + d) 57) false) (le-leb 48 (48 + d) (omega arith)) ∙ le-leb (48 + d) 57 (omega arith)

pub digit_within : (b : ℕ) → is_digit b ≡ true → (48 ≤ b) × (b ≤ 57)
digit_within b e = ⊎_elim
    (λ (t : leb 48 b ≡ true). (leb-true 48 b t, leb-true b 57 (sym (ap (λ (x : Bool). pick x (leb b 57) false) t) ∙ e)))
    (λ (f : leb 48 b ≡ false). absurd (true-false e (ap (λ (x : Bool). pick x (leb b 57) false) f)))
    (true-or (leb 48 b))

-- a digit is read, and the number stays below the limit
pub more-on : (v b : ℕ) (l : List ℕ) → is_digit b ≡ true → longer v b < limit → more v (b ∷ l) ≡ more (longer v b) l
unfolding more
more-on v b l e h = rw e (rw (lt-leb limit (longer v b) h))

pub more-over : (v b : ℕ) (l : List ℕ) → is_digit b ≡ true → limit ≤ longer v b → more v (b ∷ l) ≡ bad
unfolding more
more-over v b l e h = rw e (rw (le-leb limit (longer v b) h))

pub more-end : (v : ℕ) (l : List ℕ) → on_digit l ≡ false → more v l ≡ got v l
unfolding more
more-end v [] e = refl
more-end v (b ∷ l) e = rw e

number-on : (b : ℕ) (l : List ℕ) → is_digit b ≡ true → number (b ∷ l) ≡ begun b l
unfolding number
number-on b l e = rw e

pub number-zero : (l : List ℕ) → on_digit l ≡ false → number (48 ∷ l) ≡ got 0 l
number-zero l e = number-on 48 l refl ∙ ap (λ (x : Bool). pick x bad (got 0 l)) e

pub number-first : (b : ℕ) (l : List ℕ) → is_digit b ≡ true → b ≢ 48 → number (b ∷ l) ≡ more (b - 48) l
number-first b l e ne = number-on b l e ∙ ap (λ (x : Bool). pick x (pick (on_digit l) bad (got 0 l)) (more (b - 48) l)) (ne_eqb b 48 ne)

pub number-none : (l : List ℕ) → on_digit l ≡ false → number l ≡ bad
unfolding number
number-none [] e = refl
number-none (b ∷ l) e = rw e

pub number_led : (l : List ℕ) → on_digit l ≡ true → number (48 ∷ l) ≡ bad
number_led l e = number-on 48 l refl ∙ ap (λ (x : Bool). pick x bad (got 0 l)) e

-- ---- what is written is read

-- a numeral is read to its end
begins : (most n : ℕ) (rest : List ℕ) → n ≤ most → 0 < n → n < limit → number (digits n ++ rest) ≡ more n rest
begins zero n rest p q h = absurd (omega arith)
begins (suc most) n rest p q h = ⊎_elim
    (λ (t : ltb n 10 ≡ true).
    let g : n < 10 = ltb-true n 10 t in
    ap (λ (l : List ℕ). number (l ++ rest)) (digits-one n g)
    ∙ number-first (glyph n) rest (digit_glyph n g) (λ e. omega arith)
    ∙ ap (λ (v : ℕ). more v rest) (omega arith))
    (λ (f : ltb n 10 ≡ false).
    let g : 10 ≤ n = ltb-false n 10 f in
    let less : n / 10 < n = div-lt_self (omega arith) (omega arith) in
    let d : n % 10 < 10 = mod-lt n (omega arith) in
    let same : longer (n / 10) (glyph (n % 10)) ≡ n = omega (arith, div-add-mod' n 10) in
    ap (λ (l : List ℕ). number (l ++ rest)) (digits_more n g)
    ∙ ap number (append_assoc (digits (n / 10)) (glyph (n % 10) ∷ []) rest)
    ∙ begins most (n / 10) (glyph (n % 10) ∷ rest) (omega arith) (omega (arith, div-add-mod' n 10)) (omega arith)
    ∙ more-on (n / 10) (glyph (n % 10)) rest (digit_glyph (n % 10) d) (omega arith)
    ∙ ap (λ (v : ℕ). more v rest) same)
    (true-or (ltb n 10))

pub number_complete : (n : ℕ) (rest : List ℕ) → n < limit → on_digit rest ≡ false → number (digits n ++ rest) ≡ got n rest
number_complete n rest h e = go (ℕ_discrete n 0)
  where
    go : Dec (n ≡ 0) → number (digits n ++ rest) ≡ got n rest
    go (yes z) = ap (λ (x : ℕ). number (digits x ++ rest)) z ∙ ap (λ (l : List ℕ). number (l ++ rest)) (digits-one 0 (omega arith)) ∙ number-zero rest e ∙ ap (λ (x : ℕ). got x rest) (sym z)
    go (no ne) = begins n n rest (omega arith) (omega arith) h ∙ more-end n rest e

-- ---- what is read was written

-- a text is that of a number, and no digit follows
pub record Numeral (text : List ℕ) (n : ℕ) (rest : List ℕ) : Type 0 where
  pub spelt : text ≡ digits n ++ rest
  pub below : n < limit
  pub ends : on_digit rest ≡ false

same_got : {a b : ℕ} {l m : List ℕ} → got a l ≡ got b m → (a ≡ b) × (l ≡ m)
same_got e = (cc, cc)

not_got : {a : ℕ} {l : List ℕ} {A : Type 0} → bad ≡ got a l → A
not_got e = let z : ◌≡◌ {A = ℕ} 0 1 = cc in absurd (omega arith)

-- the numeral at which reading ends
ended : {v n : ℕ} {l rest : List ℕ} → v < limit → on_digit l ≡ false → got v l ≡ got n rest → Numeral (digits v ++ l) n rest
ended {v} {n} {l} {rest} h e p = let s = same_got p in record {
  spelt = ap (λ (x : ℕ). digits x ++ l) s.0 ∙ ap (λ (m : List ℕ). digits n ++ m) s.1;
  below = omega (arith, s.0);
  ends = sym (ap on_digit s.1) ∙ e;
}

more_sound : (v n : ℕ) (l rest : List ℕ) → 0 < v → v < limit → more v l ≡ got n rest → Numeral (digits v ++ l) n rest
more_sound v n [] rest p h e = ended h refl (sym (more-end v [] refl) ∙ e)
more_sound v n (b ∷ l) rest p h e = go (true-or (is_digit b)) (true-or (leb limit (longer v b))) (more_sound (longer v b) n l rest)
  where
    go : (is_digit b ≡ true) ⊎ (is_digit b ≡ false) → (leb limit (longer v b) ≡ true) ⊎ (leb limit (longer v b) ≡ false)
        → (0 < longer v b → longer v b < limit → more (longer v b) l ≡ got n rest → Numeral (digits (longer v b) ++ l) n rest)
        → Numeral (digits v ++ (b ∷ l)) n rest
    go (inr f) over rec = ended h f (sym (more-end v (b ∷ l) f) ∙ e)
    go (inl t) (inl over) rec = not_got (sym (more-over v b l t (leb-true limit (longer v b) over)) ∙ e)
    go (inl t) (inr under) rec =
        let w = digit_within b t in
        let u : longer v b < limit = leb-false limit (longer v b) under in
        let r = rec (omega arith) u (sym (more-on v b l t u) ∙ e) in
        let last : glyph (b - 48) ≡ b = omega arith in
        record {
          spelt =
              sym (append_assoc (digits v) (b ∷ []) l)
              ∙ ap (λ (x : ℕ). (digits v ++ (x ∷ [])) ++ l) (sym last)
              ∙ ap (λ (m : List ℕ). m ++ l) (sym (digits-longer v (b - 48) p (omega arith)))
              ∙ r.spelt;
          below = r.below;
          ends = r.ends;
        }

pub number_sound : (text : List ℕ) (n : ℕ) (rest : List ℕ) → number text ≡ got n rest → Numeral text n rest
number_sound [] n rest e = not_got (sym (number-none [] refl) ∙ e)
number_sound (b ∷ l) n rest e = go (true-or (is_digit b)) (ℕ_discrete b 48) (true-or (on_digit l))
  where
    from : (v : ℕ) {text : List ℕ} → digits v ++ l ≡ text → Numeral (digits v ++ l) n rest → Numeral text n rest
    from v p r = record { spelt = sym p ∙ r.spelt; below = r.below; ends = r.ends }

    go : (is_digit b ≡ true) ⊎ (is_digit b ≡ false) → Dec (b ≡ 48) → (on_digit l ≡ true) ⊎ (on_digit l ≡ false) → Numeral (b ∷ l) n rest
    go (inr f) d o = not_got (sym (number-none (b ∷ l) f) ∙ e)
    go (inl t) (yes z) (inl o) = not_got (sym (number_led l o) ∙ ap (λ (x : ℕ). number (x ∷ l)) (sym z) ∙ e)
    go (inl t) (yes z) (inr o) =
        from 0 (ap (λ (m : List ℕ). m ++ l) (digits-one 0 (omega arith)) ∙ ap (λ (x : ℕ). x ∷ l) (sym z))
        (ended (omega arith) o (sym (number-zero l o) ∙ ap (λ (x : ℕ). number (x ∷ l)) (sym z) ∙ e))
    go (inl t) (no ne) o =
        let w = digit_within b t in
        let first : glyph (b - 48) ≡ b = omega arith in
        from (b - 48) (ap (λ (m : List ℕ). m ++ l) (digits-one (b - 48) (omega arith)) ∙ ap (λ (x : ℕ). x ∷ l) first)
        (more_sound (b - 48) n l rest (omega arith) (omega arith) (sym (number-first b l t ne) ∙ e))

-- two numbers with one numeral are one
pub digits_unique : (a b : ℕ) → a < limit → b < limit → digits a ≡ digits b → a ≡ b
digits_unique a b p q e =
    (same_got (sym (number_complete a [] p refl) ∙ ap (λ (l : List ℕ). number (l ++ [])) e ∙ number_complete b [] q refl)).0
