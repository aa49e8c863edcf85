-- What the code reads, as the definitions have it (`number_of`), and what its loop and its cases owe. Assumes nothing.
use Rattle.std.specs.Prelude.{ℕ, ◌+◌, ◌-◌, ◌*◌, ◌/◌, ◌≤◌, ◌<◌, ◌≡◌, refl, Bool, true, false, ◌≢◌, List, ◌∷◌, leb, length, get_or, drop, Option, Some, None}
use Rattle.std.specs.Char.{is_ascii_digit}
use Rattle.std.proofs.Common.{sym, ap, ◌∙◌, subst, ⊎_elim, arith, add-one, div-lt_iff_lt-mul, le-div_iff_mul-le, drop_of_length-le, drop-cons, ◌&&◌, le-leb, leb-true, leb-false}
use Rattle.std.proofs.Math.Option as maths
use Rattle.std.proofs.Math.Option.{none, some}
use Rattle.std.proofs.Math.Decide.{dec_lt}
use Rattle.std.proofs.lemmas.Bool.{lt-leb}
use Rattle.scan.specs.Scan.{pick}
use Rattle.scan.specs.Laws.{true-or, true-false}
use Rattle.decimal.specs.Number.{Number, bad, got, is_digit, on_digit, limit, longer, more, number, digit_within, more-on, more-over, more-end, number-none, number-first, number_led, number-zero}

-- the code's answer: the text after the number is what stands from its end on
abbrev pub number_of : List ℕ → Option (ℕ × ℕ) → Number
number_of text (Some (v, e)) = got v (drop e text)
number_of text None = bad

-- the end of a number lies in the text, at or after a place
abbrev pub Within : List ℕ → ℕ → Option (ℕ × ℕ) → Type 0
Within text from (Some (v, e)) = (from ≤ e) × (e ≤ length text)
Within text from None = 0 ≤ from

pub record Read (text : List ℕ) (from : ℕ) (r : Option (ℕ × ℕ)) (n : Number) : Type 0 where
  pub same : number_of text r ≡ n
  pub within : Within text from r

-- what the code's test says of a digit
pub tested : (b : ℕ) {r x : Bool} → r ≡ is_ascii_digit b → r ≡ x → is_digit b ≡ x
tested b {r} {x} e f = sym (go (leb 48 b) (leb b 57)) ∙ sym e ∙ f
  where
    go : (x y : Bool) → (x && y) ≡ pick x y false
    go true y = refl
    go false y = refl

-- the number with one digit more, where it is below the limit
abbrev pub longer_fits : ℕ → ℕ → maths.Option ℕ
longer_fits v b = pick (leb limit (longer v b)) none (some (longer v b))

-- ---- a digit more

-- a number is too large with one digit more exactly where it is above a tenth of the rest of the limit
over : (v d : ℕ) → d < 10 → (18446744073709551615 - d) / 10 < v → limit ≤ v * 10 + d
over v d g h = let less = (div-lt_iff_lt-mul {k = 10} {x = 18446744073709551615 - d} (omega arith)).0 h in omega arith

under : (v d : ℕ) → d < 10 → v ≤ (18446744073709551615 - d) / 10 → v * 10 + d < limit
under v d g h = let less = (le-div_iff_mul-le {k = 10} {y = 18446744073709551615 - d} (omega arith)).0 h in omega arith

module _ (v b wide : ℕ) (w : wide ≡ b) (digit : is_digit b ≡ true) where
  pub digit_fits : v ≤ (18446744073709551615 - (wide - 48)) / 10 → v * 10 + (wide - 48) < limit
  digit_fits h = let g = digit_within b digit in under v (wide - 48) (omega arith) h

  pub digit_over : (18446744073709551615 - (wide - 48)) / 10 < v → none ≡ longer_fits v b
  digit_over h =
      let g = digit_within b digit in
      let far = over v (wide - 48) (omega arith) h in
      ap (λ (x : Bool). pick x none (some (longer v b))) (sym (le-leb limit (longer v b) (omega arith)))

  pub digit_more : v ≤ (18446744073709551615 - (wide - 48)) / 10 → some (v * 10 + (wide - 48)) ≡ longer_fits v b
  digit_more h =
      let near = digit_fits h in
      ap some (ap (λ (x : ℕ). v * 10 + (x - 48)) w)
      ∙ ap (λ (x : Bool). pick x none (some (longer v b))) (sym (lt-leb limit (longer v b) (omega arith)))

fits_more : (v b : ℕ) {n : ℕ} → some n ≡ longer_fits v b → (n ≡ longer v b) × (longer v b < limit)
fits_more v b {n} e = ⊎_elim
    (λ (t : leb limit (longer v b) ≡ true). refuted (e ∙ ap (λ (x : Bool). pick x none (some (longer v b))) t))
    (λ (f : leb limit (longer v b) ≡ false). (is (e ∙ ap (λ (x : Bool). pick x none (some (longer v b))) f), leb-false limit (longer v b) f))
    (true-or (leb limit (longer v b)))
  where
    refuted : {A : Type 0} → some n ≡ none → A
    refuted p = let z : ◌≡◌ {A = ℕ} 0 1 = cc in absurd (omega arith)

    is : some n ≡ some (longer v b) → n ≡ longer v b
    is p = cc

fits_over : (v b : ℕ) → none ≡ longer_fits v b → limit ≤ longer v b
fits_over v b e = ⊎_elim
    (λ (t : leb limit (longer v b) ≡ true). leb-true limit (longer v b) t)
    (λ (f : leb limit (longer v b) ≡ false). refuted (e ∙ ap (λ (x : Bool). pick x none (some (longer v b))) f))
    (true-or (leb limit (longer v b)))
  where
    refuted : {A : Type 0} → none ≡ some (longer v b) → A
    refuted p = let z : ◌≡◌ {A = ℕ} 0 1 = cc in absurd (omega arith)

-- ---- where a text goes on

pub on_byte : (text : List ℕ) (i : ℕ) → i < length text → on_digit (drop i text) ≡ is_digit (get_or text i 0)
on_byte text i h = ap on_digit (drop-cons text i 0 h)

pub on-end : (text : List ℕ) (i : ℕ) → length text ≤ i → on_digit (drop i text) ≡ false
on-end text i h = ap on_digit (drop_of_length-le text h)

pub on_within : (text : List ℕ) (i : ℕ) → on_digit (drop i text) ≡ true → i < length text
on_within text i e = go (dec_lt i (length text))
  where
    go : Dec (i < length text) → i < length text
    go (yes h) = h
    go (no ne) = absurd (true-false e (on-end text i (omega arith)))

-- the text from a place on, by its first byte
pub next_byte : (text : List ℕ) (i : ℕ) → i < length text → drop i text ≡ get_or text i 0 ∷ drop (i + 1) text
next_byte text i h = drop-cons text i 0 h ∙ ap (λ (n : ℕ). get_or text i 0 ∷ drop n text) (sym (add-one i))

-- ---- digits read by a loop, which has come to i with v

pub record Reading (text : List ℕ) (at value i v : ℕ) : Type 0 where
  pub same : more value (drop at text) ≡ more v (drop i text)
  pub from : at ≤ i
  pub within : i ≤ length text

module _ (text : List ℕ) (at value : ℕ) where
  pub reading-start : at ≤ length text → Reading text at value at value
  reading-start h = record { same = refl; from = omega arith; within = h }

  pub reading-on : {i v n : ℕ} → Reading text at value i v → i < length text → is_digit (get_or text i 0) ≡ true → longer v (get_or text i 0) < limit → n ≡ longer v (get_or text i 0) → Reading text at value (i + 1) n
  reading-on {i} {v} {n} r h d f e =
      record {
        same = r.same ∙ ap (more v) (next_byte text i h) ∙ more-on v (get_or text i 0) (drop (i + 1) text) d f ∙ ap (λ (x : ℕ). more x (drop (i + 1) text)) (sym e);
        from = omega (arith, r.from);
        within = omega arith;
      }

  pub reading-over : {i v : ℕ} → Reading text at value i v → i < length text → is_digit (get_or text i 0) ≡ true → limit ≤ longer v (get_or text i 0) → Read text at None (more value (drop at text))
  reading-over {i} {v} r h d e = record {
    same = sym (r.same ∙ ap (more v) (next_byte text i h) ∙ more-over v (get_or text i 0) (drop (i + 1) text) d e);
    within = omega arith;
  }

  -- the same, by the number with one digit more
  pub reading_fits : {i v n : ℕ} → Reading text at value i v → i < length text → is_digit (get_or text i 0) ≡ true → some n ≡ longer_fits v (get_or text i 0) → Reading text at value (i + 1) n
  reading_fits {i} {v} r h d e = let f = fits_more v (get_or text i 0) e in reading-on r h d f.1 f.0

  pub reading_past : {i v : ℕ} → Reading text at value i v → i < length text → is_digit (get_or text i 0) ≡ true → none ≡ longer_fits v (get_or text i 0) → Read text at None (more value (drop at text))
  reading_past {i} {v} r h d e = reading-over r h d (fits_over v (get_or text i 0) e)

  pub reading-end : {i v : ℕ} → Reading text at value i v → on_digit (drop i text) ≡ false → Read text at (Some (v, i)) (more value (drop at text))
  reading-end {i} {v} r e = record { same = sym (r.same ∙ more-end v (drop i text) e); within = (r.from, r.within) }

  pub reading_all : {i v : ℕ} → Reading text at value i v → length text ≤ i → Read text at (Some (v, length text)) (more value (drop at text))
  reading_all {i} {v} r h = subst (λ (e : ℕ). Read text at (Some (v, e)) (more value (drop at text))) (omega (arith, r.within)) (reading-end r (on-end text i h))

-- ---- the first digit

module _ (text : List ℕ) (at : ℕ) where
  pub read_none : on_digit (drop at text) ≡ false → Read text (at + 1) None (number (drop at text))
  read_none e = record { same = sym (number-none (drop at text) e); within = omega arith }

  pub read_first : {r : Option (ℕ × ℕ)} (wide : ℕ) → wide ≡ get_or text at 0 → on_digit (drop at text) ≡ true → get_or text at 0 ≢ 48 → Read text (at + 1) r (more (wide - 48) (drop (at + 1) text)) → Read text (at + 1) r (number (drop at text))
  read_first wide w e ne r =
      let h = on_within text at e in record {
        same =
            r.same ∙ ap (λ (x : ℕ). more (x - 48) (drop (at + 1) text)) w
            ∙ sym (ap number (next_byte text at h) ∙ number-first (get_or text at 0) (drop (at + 1) text) (sym (on_byte text at h) ∙ e) ne);
        within = r.within;
      }

  -- the byte of a digit, widened
  pub first_digit : {wide : ℕ} → on_digit (drop at text) ≡ true → wide ≡ get_or text at 0 → 48 ≤ wide
  first_digit e w = omega (arith, w, digit_within (get_or text at 0) (sym (on_byte text at (on_within text at e)) ∙ e))

  zero-first : on_digit (drop at text) ≡ true → get_or text at 0 ≡ 48 → drop at text ≡ 48 ∷ drop (at + 1) text
  zero-first e z = next_byte text at (on_within text at e) ∙ ap (λ (x : ℕ). x ∷ drop (at + 1) text) z

  pub read_led : on_digit (drop at text) ≡ true → get_or text at 0 ≡ 48 → on_digit (drop (at + 1) text) ≡ true → Read text (at + 1) None (number (drop at text))
  read_led e z o = record { same = sym (ap number (zero-first e z) ∙ number_led (drop (at + 1) text) o); within = omega arith }

  pub read-zero : on_digit (drop at text) ≡ true → get_or text at 0 ≡ 48 → on_digit (drop (at + 1) text) ≡ false → Read text (at + 1) (Some (0, at + 1)) (number (drop at text))
  read-zero e z o = record {
    same = sym (ap number (zero-first e z) ∙ number-zero (drop (at + 1) text) o);
    within = (omega arith, omega (arith, on_within text at e));
  }
