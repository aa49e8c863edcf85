-- What the code reads, as the definitions have it, and what its loops and cases owe. Assumes nothing.
use Rattle.std.specs.Prelude.{ℕ, suc, ◌+◌, ◌-◌, ◌≤◌, ◌<◌, ◌≡◌, refl, Bool, true, false, ◌≢◌, List, [], ◌∷◌, eqb, length, get_or, set, take, drop}
use Rattle.std.specs.List.{starts_with}
use Rattle.std.specs.Prelude as rust
use Rattle.std.specs.Prelude.{Some, None}
use Rattle.std.proofs.Common.{◌&&◌, sym, ◌∙◌, subst, arith, add-one, drop_of_length-le, length-set, length-append, take-suc-set, ⊎_elim, eqb-true, eq-eqb, ne_eqb}
use Rattle.std.proofs.lemmas.Bool.{eqb-false}
use Rattle.std.proofs.Math.Path.{ap}
use Rattle.std.proofs.Math.Option.{Option, none, some}
use Rattle.scan.specs.Scan.{pick}
use Rattle.scan.specs.Laws.{true-or, true-false}
use Rattle.decimal.specs.Number as numbers
use Rattle.decimal.specs.Read as decimal-read
use Rattle.decimal.specs.Read.{next_byte}
use Rattle.mesh.specs.Kinds.{CUBE, TWO}
use Rattle.line.specs.Text.{Request, cube_word, two_word}
use Rattle.line.specs.Parse.{Field, end, broken, item, field_of, field, fields, begins, begins_sound, after, parse, field_end, field_space, field-other, field-none, fields-end, fields-broken, fields-more, fields-full}
use Rattle.line_take.specs.declared.Field as code-field
use Rattle.line_take.specs.declared.Field.TheVariants as fld

-- ---- one field

abbrev pub field_told : List ℕ → rust.Option code-field.Field → Field
field_told text (Some (fld.Item v e)) = item v (drop e text)
field_told text (Some fld.End) = end
field_told text None = broken

-- a number ends in the text, behind the place at which its field begins
abbrev pub FieldWithin : List ℕ → ℕ → rust.Option code-field.Field → Type 0
FieldWithin text at (Some (fld.Item v e)) = (at < e) × (e ≤ length text)
FieldWithin text at (Some fld.End) = 0 ≤ at
FieldWithin text at None = 0 ≤ at

pub record ReadField (text : List ℕ) (at : ℕ) (r : rust.Option code-field.Field) : Type 0 where
  pub same : field_told text r ≡ field (drop at text)
  pub within : FieldWithin text at r

pub as_field : {text : List ℕ} {at : ℕ} {r s : rust.Option code-field.Field} → r ≡ s → ReadField text at r → ReadField text at s
as_field {text} {at} e f = subst (ReadField text at) e f

module _ (text : List ℕ) (at : ℕ) where
  pub field_past : length text ≤ at → ReadField text at None
  field_past h = record { same = sym (ap field (drop_of_length-le text h) ∙ field-none); within = omega arith }

  pub field-ends : at < length text → get_or text at 0 ≡ 10 → ReadField text at (Some fld.End)
  field-ends h e = record {
    same = sym (ap field (next_byte text at h) ∙ ap (λ (b : ℕ). field (b ∷ drop (at + 1) text)) e ∙ field_end (drop (at + 1) text));
    within = omega arith;
  }

  pub field_breaks : at < length text → get_or text at 0 ≢ 10 → get_or text at 0 ≢ 32 → ReadField text at None
  field_breaks h p q = record { same = sym (ap field (next_byte text at h) ∙ field-other (get_or text at 0) (drop (at + 1) text) p q); within = omega arith }

  spaced-field : at < length text → get_or text at 0 ≡ 32 → field (drop at text) ≡ field_of (numbers.number (drop (at + 1) text))
  spaced-field h e = ap field (next_byte text at h) ∙ ap (λ (b : ℕ). field (b ∷ drop (at + 1) text)) e ∙ field_space (drop (at + 1) text)

  module _ {r : rust.Option (ℕ × ℕ)} (h : at < length text) (e : get_or text at 0 ≡ 32) (n : decimal-read.Read text (at + 1 + 1) r (numbers.number (drop (at + 1) text))) where
    pub field-number : {v p : ℕ} → r ≡ Some (v, p) → ReadField text at (Some (fld.Item v p))
    field-number {v} {p} s =
        let w = subst (decimal-read.Within text (at + 1 + 1)) s n.within in
        record {
          same = ap field_of (sym (ap (decimal-read.number_of text) s) ∙ n.same) ∙ sym (spaced-field h e);
          within = (omega (arith, w.0), w.1);
        }

    pub field_no_number : r ≡ None → ReadField text at None
    field_no_number s = record { same = ap field_of (sym (ap (decimal-read.number_of text) s) ∙ n.same) ∙ sym (spaced-field h e); within = omega arith }

-- ---- all fields

abbrev pub nothing : List ℕ
nothing = []

abbrev pub fields_told : List ℕ → rust.Option ℕ → Option (List ℕ)
fields_told out (Some n) = some (take n out)
fields_told out None = none

abbrev pub FieldsWithin : List ℕ → rust.Option ℕ → Type 0
FieldsWithin out (Some n) = n ≤ length out
FieldsWithin out None = 0 ≤ length out

pub record ReadFields (out : List ℕ) (r : rust.Option ℕ) (all : Option (List ℕ)) : Type 0 where
  pub same : fields_told out r ≡ all
  pub within : FieldsWithin out r

-- the loop has come to i, with n numbers in `out`
pub record Listing (text : List ℕ) (at : ℕ) (out₀ out : List ℕ) (i n : ℕ) : Type 0 where
  pub room : ℕ
  pub rooms : n + room ≡ length out₀
  pub long : length out ≡ length out₀
  pub within : i ≤ length text
  pub same : fields (length out₀) [] (drop at text) ≡ fields room (take n out) (drop i text)

module _ (text : List ℕ) (at : ℕ) (out₀ : List ℕ) where
  pub listing_start : at ≤ length text → Listing text at out₀ out₀ at 0
  listing_start h = record { room = length out₀; rooms = omega arith; long = refl; within = h; same = refl }

  module _ {out : List ℕ} {i n : ℕ} (l : Listing text at out₀ out i n) where
    pub listing_ends : ReadField text i (Some fld.End) → ReadFields out (Some n) (fields (length out₀) [] (drop at text))
    listing_ends f = record { same = sym (l.same ∙ fields-end l.room (take n out) (drop i text) (sym f.same)); within = omega (arith, l.rooms, l.long) }

    pub listing_breaks : ReadField text i None → ReadFields out None (fields (length out₀) [] (drop at text))
    listing_breaks f = record { same = sym (l.same ∙ fields-broken l.room (take n out) (drop i text) (sym f.same)); within = omega arith }

    pub listing_full : {v e : ℕ} → ReadField text i (Some (fld.Item v e)) → length out ≤ n → ReadFields out None (fields (length out₀) [] (drop at text))
    listing_full f h =
        let none_left : l.room ≡ 0 = omega (arith, l.rooms, l.long) in
        record {
          same = sym (l.same ∙ ap (λ (r : ℕ). fields r (take n out) (drop i text)) none_left ∙ fields-full (take n out) (drop i text) (sym f.same));
          within = omega arith;
        }

    pub listing_more : {v e : ℕ} → ReadField text i (Some (fld.Item v e)) → n < length out → Listing text at out₀ (set out n v) e (n + 1)
    listing_more {v} {e} f h =
        let one : l.room ≡ suc (l.room - 1) = omega (arith, l.rooms, l.long) in
        record {
          room = l.room - 1;
          rooms = omega (arith, l.rooms, l.long);
          long = length-set out n v ∙ l.long;
          within = f.within.1;
          same =
              l.same
              ∙ ap (λ (r : ℕ). fields r (take n out) (drop i text)) one
              ∙ fields-more (l.room - 1) (take n out) (drop i text) (sym f.same)
              ∙ ap (λ (s : List ℕ). fields (l.room - 1) s (drop e text)) (sym (take-suc-set out n v h) ∙ ap (λ (k : ℕ). take k (set out n v)) (sym (add-one n)));
        }

    pub listing_past : length text ≤ i → ReadFields out None (fields (length out₀) [] (drop at text))
    listing_past h = listing_breaks (field_past text i h)

-- ---- the first word

-- a text that is shorter than a word does not begin with it
begins-short : (ws text : List ℕ) → length text < length ws → begins ws text ≡ false
begins-short [] text h = absurd (omega arith)
begins-short (w ∷ ws) [] h = refl
begins-short (w ∷ ws) (b ∷ l) h = go (eqb b w) (begins-short ws l (omega arith))
  where
    go : (x : Bool) → begins ws l ≡ false → pick x (begins ws l) false ≡ false
    go true e = e
    go false e = refl

-- a loop over the word has come to i, and all before it is the same
pub record Matching (ws text : List ℕ) (i : ℕ) : Type 0 where
  pub within : i ≤ length ws
  pub same : begins ws text ≡ begins (drop i ws) (drop i text)

module _ (ws text : List ℕ) where
  pub shorter : length text < length ws → false ≡ begins ws text
  shorter h = sym (begins-short ws text h)

  pub matching_start : Matching ws text 0
  matching_start = record { within = omega arith; same = refl }

  module _ {i : ℕ} (m : Matching ws text i) (h : length ws ≤ length text) where
    both : i < length ws → begins (drop i ws) (drop i text) ≡ pick (eqb (get_or text i 0) (get_or ws i 0)) (begins (drop (i + 1) ws) (drop (i + 1) text)) false
    both g = ap (λ (l : List ℕ). begins l (drop i text)) (next_byte ws i g) ∙ ap (begins (get_or ws i 0 ∷ drop (i + 1) ws)) (next_byte text i (omega arith))

    pub matching_more : i < length ws → get_or text i 0 ≡ get_or ws i 0 → Matching ws text (i + 1)
    matching_more g e = record {
      within = omega arith;
      same = m.same ∙ both g ∙ ap (λ (x : Bool). pick x (begins (drop (i + 1) ws) (drop (i + 1) text)) false) (eq-eqb (get_or text i 0) (get_or ws i 0) e);
    }

    pub matching_not : i < length ws → get_or text i 0 ≢ get_or ws i 0 → false ≡ begins ws text
    matching_not g ne = sym (m.same ∙ both g ∙ ap (λ (x : Bool). pick x (begins (drop (i + 1) ws) (drop (i + 1) text)) false) (ne_eqb (get_or text i 0) (get_or ws i 0) ne))

    pub matching_all : length ws ≤ i → true ≡ begins ws text
    matching_all g = sym (m.same ∙ ap (λ (l : List ℕ). begins l (drop i text)) (drop_of_length-le ws g))

-- what the library's test says of a text that begins with a word
pub begins_is : (ws text : List ℕ) {r x : Bool} → r ≡ starts_with eqb text ws → r ≡ x → begins ws text ≡ x
begins_is ws text {r} {x} e f = go ws text ∙ sym e ∙ f
  where
    turned : (b w : ℕ) → eqb b w ≡ eqb w b
    turned b w = ⊎_elim
        (λ (t : eqb b w ≡ true). t ∙ sym (eq-eqb w b (sym (eqb-true b w t))))
        (λ (n : eqb b w ≡ false). n ∙ sym (ne_eqb w b (λ m. eqb-false b w n (sym m))))
        (true-or (eqb b w))

    both : (p q y z : Bool) → p ≡ q → y ≡ z → pick p y false ≡ (q && z)
    both true true y z m n = n
    both true false y z m n = absurd (true-false refl m)
    both false true y z m n = absurd (true-false refl (sym m))
    both false false y z m n = refl

    go : (ws text : List ℕ) → begins ws text ≡ starts_with eqb text ws
    go [] text = refl
    go (w ∷ ws) [] = refl
    go (w ∷ ws) (b ∷ l) = both (eqb b w) (eqb w b) (begins ws l) (starts_with eqb l ws) (turned b w) (go ws l)

abbrev pub word_told : List ℕ → rust.Option (ℕ × ℕ) → Option Request
word_told text (Some (kind, e)) = after kind (drop e text)
word_told text None = none

abbrev pub WordWithin : List ℕ → rust.Option (ℕ × ℕ) → Type 0
WordWithin text (Some (kind, e)) = e ≤ length text
WordWithin text None = 0 ≤ length text

-- the kind of the first word, and how many bytes the word has
abbrev pub word_of : List ℕ → rust.Option (ℕ × ℕ)
word_of text = pick (begins cube_word text) (Some (CUBE, 4)) (pick (begins two_word text) (Some (TWO, 3)) None)

pub record ReadWord (text : List ℕ) (r : rust.Option (ℕ × ℕ)) : Type 0 where
  pub is : r ≡ word_of text
  pub same : word_told text r ≡ parse text
  pub within : WordWithin text r

module _ (text : List ℕ) where
  begun : (ws : List ℕ) → begins ws text ≡ true → length ws ≤ length text
  begun ws e = omega (arith, ap length (begins_sound ws text e), length-append ws (drop (length ws) text))

  cube_is : begins cube_word text ≡ true → Some (CUBE, 4) ≡ word_of text
  cube_is e = ap (λ (x : Bool). pick x (Some (CUBE, 4)) (pick (begins two_word text) (Some (TWO, 3)) None)) (sym e)

  not_cube : begins cube_word text ≡ false → pick (begins two_word text) (Some (TWO, 3)) None ≡ word_of text
  not_cube e = ap (λ (x : Bool). pick x (Some (CUBE, 4)) (pick (begins two_word text) (Some (TWO, 3)) None)) (sym e)

  pub word-cube : begins cube_word text ≡ true → ReadWord text (Some (CUBE, 4))
  unfolding parse
  word-cube e = record {
    is = cube_is e;
    same = ap (λ (x : Bool). pick x (after CUBE (drop 4 text)) (pick (begins two_word text) (after TWO (drop 3 text)) none)) (sym e);
    within = begun cube_word e;
  }

  no_cube : begins cube_word text ≡ false → parse text ≡ pick (begins two_word text) (after TWO (drop 3 text)) none
  unfolding parse
  no_cube e = ap (λ (x : Bool). pick x (after CUBE (drop 4 text)) (pick (begins two_word text) (after TWO (drop 3 text)) none)) e

  pub word_two : begins cube_word text ≡ false → begins two_word text ≡ true → ReadWord text (Some (TWO, 3))
  word_two c e = record { is = ap (λ (x : Bool). pick x (Some (TWO, 3)) None) (sym e) ∙ not_cube c; same = sym (no_cube c ∙ ap (λ (x : Bool). pick x (after TWO (drop 3 text)) none) e); within = begun two_word e }

  pub word-other : begins cube_word text ≡ false → begins two_word text ≡ false → ReadWord text None
  word-other c e = record { is = ap (λ (x : Bool). pick x (Some (TWO, 3)) None) (sym e) ∙ not_cube c; same = sym (no_cube c ∙ ap (λ (x : Bool). pick x (after TWO (drop 3 text)) none) e); within = omega arith }
