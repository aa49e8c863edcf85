-- What the code takes from a text, as the definitions of `dimacs` have it, and what its loop and its cases owe. Assumes nothing.
use Rattle.std.specs.Prelude.{ℕ, zero, suc, ◌+◌, ◌-◌, ◌≤◌, ◌<◌, ◌≡◌, refl, Bool, true, false, ◌≢◌, eqb, length, get_or, take, drop}
use Rattle.std.specs.Prelude as rust
use Rattle.std.specs.Prelude.{Some, None}
use Rattle.std.proofs.Common.{sym, ◌∙◌, subst, arith, drop_of_length-le, length-drop, drop-drop, take_all, eq-eqb, ne_eqb}
use Rattle.std.proofs.Math.Path.{ap}
use Rattle.std.proofs.Math.Option.{Option, none, some}
use mathlib.Core.List.{List, [], ◌∷◌}
use Rattle.std.proofs.Math.Decide.{dec_lt}
use Rattle.scan.specs.Scan.{pick}
use Rattle.decimal.specs.Read.{next_byte}
use Rattle.line.specs.Parse.{Field, end, field, on_field, begins, begins_sound}
use Rattle.line.specs.Lines.{end_sound}
use Rattle.line_take.specs.Reads.{ReadField, field_told, FieldWithin, begins_is}
use Rattle.line_take.specs.declared.Field as code-field
use Rattle.line_take.specs.declared.Field.TheVariants as fld
use Rattle.std.specs.List.{starts_with}
use Rattle.dimacs.specs.Text.{counts_word}
use Rattle.dimacs_take.specs.declared.Line as code
use Rattle.dimacs_take.specs.declared.Line.TheVariants.{Comment, Counts, Link}
use Rattle.dimacs.specs.Parse.{Line, comment, counts, Piece, broken, piece, skip, comment_of, Pair, unpaired, pair, closed, second, two, piece_of, edge_line, line_at}

-- ---- up to the next newline

abbrev pub skip_told : List ℕ → rust.Option ℕ → Option (List ℕ)
skip_told text (Some e) = some (drop e text)
skip_told text None = none

abbrev pub SkipWithin : List ℕ → ℕ → rust.Option ℕ → Type 0
SkipWithin text at (Some e) = (at < e) × (e ≤ length text)
SkipWithin text at None = 0 ≤ at

pub record Skipped (text : List ℕ) (at : ℕ) (r : rust.Option ℕ) : Type 0 where
  pub same : skip_told text r ≡ skip (drop at text)
  pub within : SkipWithin text at r

skip-end : (l : List ℕ) → skip (10 ∷ l) ≡ some l
unfolding skip
skip-end l = refl

skip-on : (b : ℕ) (l : List ℕ) → b ≢ 10 → skip (b ∷ l) ≡ skip l
unfolding skip
skip-on b l ne = ap (λ (x : Bool). pick x (some l) (skip l)) (ne_eqb b 10 ne)

skip-none : skip [] ≡ none
unfolding skip
skip-none = refl

-- the first newline is the n-th byte
skip_found : (l : List ℕ) (n : ℕ) → n < length l → get_or l n 0 ≡ 10 → ((k : ℕ) → k < n → get_or l k 0 ≢ 10) → skip l ≡ some (drop (n + 1) l)
skip_found [] n h e f = absurd (omega arith)
skip_found (b ∷ l) zero h e f = ap (λ (x : ℕ). skip (x ∷ l)) e ∙ skip-end l
skip_found (b ∷ l) (suc n) h e f =
    let same : suc (n + 1) ≡ suc n + 1 = omega arith in
    skip-on b l (f 0 (omega arith)) ∙ skip_found l n (omega arith) e (λ k g. f (suc k) (omega arith)) ∙ ap (λ (m : ℕ). some (drop m (b ∷ l))) same

-- there is none
skip_lost : (l : List ℕ) → ((k : ℕ) → k < length l → get_or l k 0 ≢ 10) → skip l ≡ none
skip_lost [] f = skip-none
skip_lost (b ∷ l) f = skip-on b l (f 0 (omega arith)) ∙ skip_lost l (λ k g. f (suc k) (omega arith))

module _ (text : List ℕ) (at : ℕ) where
  pub skip_past : length text ≤ at → Skipped text at None
  skip_past h = record { same = sym (ap skip (drop_of_length-le text h) ∙ skip-none); within = omega arith }

  -- no byte of what is left is a newline
  pub none_ahead : {rest : List ℕ} → rest ≡ drop at text → ((k d : ℕ) → 0 ≤ k → k < length rest → get_or rest k d ≢ 10) → Skipped text at None
  none_ahead {rest} e f = record { same = sym (ap skip (sym e) ∙ skip_lost rest (λ k g. f k 0 (omega arith) g)); within = omega arith }

  -- the n-th is the first
  pub found_ahead : {rest : List ℕ} {n : ℕ} → rest ≡ drop at text
      → (n < length rest) × ((d : ℕ) → get_or rest n d ≡ 10) × ((k d : ℕ) → 0 ≤ k → k < n → get_or rest k d ≢ 10) → Skipped text at (Some (at + n + 1))
  found_ahead {rest} {n} e f =
      let same : at + (n + 1) ≡ at + n + 1 = omega arith in
      record {
        same = sym (
            ap skip (sym e) ∙ skip_found rest n f.0 (f.1 0) (λ k g. f.2 k 0 (omega arith) g)
            ∙ ap (λ (l : List ℕ). some (drop (n + 1) l)) e ∙ ap some (drop-drop (n + 1) at text ∙ ap (λ (m : ℕ). drop m text) same)
            );
        within = (omega arith, omega (arith, f.0, ap length e, length-drop at text));
      }

-- a loop over the bytes has come to i
pub record Skipping (text : List ℕ) (at i : ℕ) : Type 0 where
  pub from : at ≤ i
  pub same : skip (drop at text) ≡ skip (drop i text)

module _ (text : List ℕ) (at : ℕ) where
  pub skip-start : Skipping text at at
  skip-start = record { from = omega arith; same = refl }

  module _ {i : ℕ} (s : Skipping text at i) where
    pub skip-more : i < length text → get_or text i 0 ≢ 10 → Skipping text at (i + 1)
    skip-more h ne = record { from = omega (arith, s.from); same = s.same ∙ ap skip (next_byte text i h) ∙ skip-on (get_or text i 0) (drop (i + 1) text) ne }

    pub skipping_found : i < length text → get_or text i 0 ≡ 10 → Skipped text at (Some (i + 1))
    skipping_found h e = record {
      same = sym (s.same ∙ ap skip (next_byte text i h) ∙ ap (λ (b : ℕ). skip (b ∷ drop (i + 1) text)) e ∙ skip-end (drop (i + 1) text));
      within = (omega (arith, s.from), omega arith);
    }

    pub skipping_lost : length text ≤ i → Skipped text at None
    skipping_lost h = record { same = sym (s.same ∙ ap skip (drop_of_length-le text h) ∙ skip-none); within = omega arith }

-- ---- two numbers

abbrev pub pair_told : List ℕ → rust.Option (ℕ × ℕ × ℕ) → Pair
pair_told text (Some (a, b, e)) = pair a b (drop e text)
pair_told text None = unpaired

abbrev pub PairWithin : List ℕ → ℕ → rust.Option (ℕ × ℕ × ℕ) → Type 0
PairWithin text at (Some (a, b, e)) = (at < e) × (e ≤ length text)
PairWithin text at None = 0 ≤ at

pub record Paired (text : List ℕ) (at : ℕ) (r : rust.Option (ℕ × ℕ × ℕ)) (p : Pair) : Type 0 where
  pub same : pair_told text r ≡ p
  pub within : PairWithin text at r

-- ---- a line

abbrev pub line_of : code.Line → Line
line_of Comment = comment
line_of (Counts a b) = counts a b
line_of (Link a b) = edge_line a b

abbrev pub piece_told : List ℕ → rust.Option (code.Line × ℕ) → Piece
piece_told text (Some (x, e)) = piece (line_of x) (drop e text)
piece_told text None = broken

abbrev pub TakenWithin : List ℕ → ℕ → rust.Option (code.Line × ℕ) → Type 0
TakenWithin text at (Some (x, e)) = (at < e) × (e ≤ length text)
TakenWithin text at None = 0 ≤ at

pub record Taken (text : List ℕ) (at : ℕ) (r : rust.Option (code.Line × ℕ)) (p : Piece) : Type 0 where
  pub same : piece_told text r ≡ p
  pub within : TakenWithin text at r

-- what is taken of what is skipped, and of two numbers
module _ (text : List ℕ) (at : ℕ) {r : rust.Option ℕ} (f : Skipped text at r) where
  pub comment_taken : {e : ℕ} → r ≡ Some e → Taken text at (Some (Comment, e)) (comment_of (skip (drop at text)))
  comment_taken z = record { same = ap comment_of (sym (ap (skip_told text) z) ∙ f.same); within = subst (SkipWithin text at) z f.within }

  pub comment_lost : r ≡ None → Taken text at None (comment_of (skip (drop at text)))
  comment_lost z = record { same = ap comment_of (sym (ap (skip_told text) z) ∙ f.same); within = omega arith }

module _ (text : List ℕ) (at : ℕ) {r : rust.Option (ℕ × ℕ × ℕ)} (f : Paired text at r (two (drop at text))) where
  pub link_taken : {a b e : ℕ} → r ≡ Some (a, b, e) → Taken text at (Some (Link a b, e)) (piece_of edge_line (two (drop at text)))
  link_taken z = record { same = ap (piece_of edge_line) (sym (ap (pair_told text) z) ∙ f.same); within = subst (PairWithin text at) z f.within }

  pub counts_taken : {a b e : ℕ} → r ≡ Some (a, b, e) → Taken text at (Some (Counts a b, e)) (piece_of counts (two (drop at text)))
  counts_taken z = record { same = ap (piece_of counts) (sym (ap (pair_told text) z) ∙ f.same); within = subst (PairWithin text at) z f.within }

  pub pair_lost : (g : ℕ → ℕ → Line) → r ≡ None → Taken text at None (piece_of g (two (drop at text)))
  pair_lost g z = record { same = ap (piece_of g) (sym (ap (pair_told text) z) ∙ f.same); within = omega arith }

-- ---- as code reads two numbers

-- a newline stands in the text
end_within : (text : List ℕ) (at : ℕ) → field (drop at text) ≡ end → at < length text
end_within text at e = go (dec_lt at (length text))
  where
    go : Dec (at < length text) → at < length text
    go (yes h) = h
    go (no ne) =
        let (rest, z) = end_sound (drop at text) e in
        let q = ap length (sym (drop_of_length-le text {i = at} (omega arith)) ∙ z) in absurd (omega arith)

-- the definition goes by the field that is told
by_field : (text : List ℕ) (at : ℕ) {r : rust.Option code-field.Field} → ReadField text at r → (x : Pair) (g : ℕ → List ℕ → Pair) → on_field (field_told text r) x unpaired g ≡ on_field (field (drop at text)) x unpaired g
by_field text at f x g = ap (λ (y : Field). on_field y x unpaired g) f.same

module _ (text : List ℕ) (at : ℕ) where
  pub first_lost : {r : rust.Option code-field.Field} → ReadField text at r → on_field (field_told text r) unpaired unpaired second ≡ unpaired → Paired text at None (two (drop at text))
  unfolding two
  first_lost f z = record { same = sym z ∙ by_field text at f unpaired second; within = omega arith }

  module _ {a next : ℕ} (f : ReadField text at (Some (fld.Item a next))) where
    first_is : second a (drop next text) ≡ two (drop at text)
    unfolding two
    first_is = by_field text at f unpaired second

    pub second_lost : {r : rust.Option code-field.Field} → ReadField text next r → on_field (field_told text r) unpaired unpaired (closed a) ≡ unpaired → Paired text at None (two (drop at text))
    second_lost g z = record { same = sym z ∙ by_field text next g unpaired (closed a) ∙ first_is; within = omega arith }

    module _ {b last : ℕ} (g : ReadField text next (Some (fld.Item b last))) where
      second_is : closed a b (drop last text) ≡ two (drop at text)
      second_is = by_field text next g unpaired (closed a) ∙ first_is

      pub last_lost : {r : rust.Option code-field.Field} → ReadField text last r → on_field (field_told text r) (pair a b (drop 1 (drop last text))) unpaired (λ n l. unpaired) ≡ unpaired → Paired text at None (two (drop at text))
      last_lost h z = record { same = sym z ∙ by_field text last h (pair a b (drop 1 (drop last text))) (λ n l. unpaired) ∙ second_is; within = omega arith }

      pub both : ReadField text last (Some fld.End) → Paired text at (Some (a, b, last + 1)) (two (drop at text))
      both h =
          let in_text = end_within text last (sym h.same) in
          record {
            same = ap (pair a b) (sym (drop-drop 1 last text)) ∙ by_field text last h (pair a b (drop 1 (drop last text))) (λ n l. unpaired) ∙ second_is;
            within = (omega (arith, f.within.0, g.within.0), omega arith);
          }

-- ---- as code reads them, field by field

module _ (text : List ℕ) (at : ℕ) {r : rust.Option code-field.Field} (f : ReadField text at r) where
  -- the definition goes by the field that is told
  told : {s : rust.Option code-field.Field} (x : Pair) (g : ℕ → List ℕ → Pair) → r ≡ s → on_field (field_told text s) x unpaired g ≡ on_field (field (drop at text)) x unpaired g
  told x g e = ap (λ (y : Field). on_field y x unpaired g) (sym (ap (field_told text) e) ∙ f.same)

  module _ (x : Pair) (g : ℕ → List ℕ → Pair) where
    pub no_item : {s : rust.Option code-field.Field} → r ≡ s → on_field (field_told text s) x unpaired g ≡ unpaired → Paired text at None (on_field (field (drop at text)) x unpaired g)
    no_item e z = record { same = sym z ∙ told x g e; within = omega arith }

    pub an_item : {a p : ℕ} {q : rust.Option (ℕ × ℕ × ℕ)} → r ≡ Some (fld.Item a p) → Paired text p q (g a (drop p text)) → Paired text at q (on_field (field (drop at text)) x unpaired g)
    an_item {a} {p} {q} e v = record { same = v.same ∙ told x g e; within = later q v.within }
      where
        w : (at < p) × (p ≤ length text)
        w = subst (FieldWithin text at) e f.within

        later : (q : rust.Option (ℕ × ℕ × ℕ)) → PairWithin text p q → PairWithin text at q
        later (Some (b, c, d)) h = (omega (arith, w.0, h.0), h.1)
        later None h = omega arith

  pub line-ends : (a b : ℕ) → r ≡ Some fld.End → Paired text at (Some (a, b, at + 1)) (closed a b (drop at text))
  line-ends a b e =
      let z : field (drop at text) ≡ end = sym (sym (ap (field_told text) e) ∙ f.same) in
      let h = end_within text at z in
      record {
        same = ap (pair a b) (sym (ap (drop 1) (next_byte text at h))) ∙ told (pair a b (drop 1 (drop at text))) (λ n l. unpaired) e;
        within = (omega arith, omega arith);
      }

  pub end-here : r ≡ Some fld.End → at < length text
  end-here e = end_within text at (sym (sym (ap (field_told text) e) ∙ f.same))

pub as_two : (text : List ℕ) {at : ℕ} {r : rust.Option (ℕ × ℕ × ℕ)} → Paired text at r (on_field (field (drop at text)) unpaired unpaired second) → Paired text at r (two (drop at text))
unfolding two
as_two text v = v

-- ---- a line, by its first bytes

-- a line that is taken later in the text
later : (text : List ℕ) {at to : ℕ} (r : rust.Option (code.Line × ℕ)) → at ≤ to → TakenWithin text to r → TakenWithin text at r
later text (Some (x, e)) h w = (omega (arith, w.0), w.1)
later text None h w = omega arith

module _ (text : List ℕ) (at : ℕ) (h : at < length text) where
  abbrev b : ℕ
  b = get_or text at 0

  abbrev l : List ℕ
  l = drop (at + 1) text

  -- the definition at the first byte
  by_byte : (x y z : Bool) → eqb b 99 ≡ x → eqb b 101 ≡ y → begins counts_word (drop at text) ≡ z
      → line_at (drop at text) ≡ pick x (comment_of (skip l)) (pick y (piece_of edge_line (two l)) (pick z (piece_of counts (two (drop 6 (drop at text)))) broken))
  unfolding line_at
  by_byte x y z p q s =
      let e = next_byte text at h in
      ap line_at e
      ∙ ap (λ (m : List ℕ). pick (eqb b 99) (comment_of (skip l)) (pick (eqb b 101) (piece_of edge_line (two l)) (pick (begins counts_word m) (piece_of counts (two (drop 6 m))) broken))) (sym e)
      ∙ ap (λ (t : Bool). pick t (comment_of (skip l)) (pick (eqb b 101) (piece_of edge_line (two l)) (pick (begins counts_word (drop at text)) (piece_of counts (two (drop 6 (drop at text)))) broken))) p
      ∙ ap (λ (t : Bool). pick x (comment_of (skip l)) (pick t (piece_of edge_line (two l)) (pick (begins counts_word (drop at text)) (piece_of counts (two (drop 6 (drop at text)))) broken))) q
      ∙ ap (λ (t : Bool). pick x (comment_of (skip l)) (pick y (piece_of edge_line (two l)) (pick t (piece_of counts (two (drop 6 (drop at text)))) broken))) s

  pub on_comment : {r : rust.Option ℕ} → b ≡ 99 → Skipped text (at + 1) r → comment_of (skip_told text r) ≡ line_at (drop at text)
  on_comment e t = ap comment_of t.same ∙ sym (by_byte true (eqb b 101) (begins counts_word (drop at text)) (eq-eqb b 99 e) refl refl)

  pub on_link : {r : rust.Option (ℕ × ℕ × ℕ)} → b ≢ 99 → b ≡ 101 → Paired text (at + 1) r (two l) → piece_of edge_line (pair_told text r) ≡ line_at (drop at text)
  on_link n e t = ap (piece_of edge_line) t.same ∙ sym (by_byte false true (begins counts_word (drop at text)) (ne_eqb b 99 n) (eq-eqb b 101 e) refl)

  pub on_counts : {r : rust.Option (ℕ × ℕ × ℕ)} → b ≢ 99 → b ≢ 101 → begins counts_word (drop at text) ≡ true → Paired text (at + 6) r (two (drop (at + 6) text)) → piece_of counts (pair_told text r) ≡ line_at (drop at text)
  on_counts n m e t =
      ap (piece_of counts) (t.same ∙ ap two (sym (drop-drop 6 at text))) ∙ sym (by_byte false false true (ne_eqb b 99 n) (ne_eqb b 101 m) e)

  pub on_other : b ≢ 99 → b ≢ 101 → begins counts_word (drop at text) ≡ false → broken ≡ line_at (drop at text)
  on_other n m e = sym (by_byte false false false (ne_eqb b 99 n) (ne_eqb b 101 m) e)

  -- the same of a line that is taken
  pub comment_line : {r : rust.Option (code.Line × ℕ)} → b ≡ 99 → Taken text (at + 1) r (comment_of (skip l)) → Taken text at r (line_at (drop at text))
  comment_line {r} e t = record { same = t.same ∙ sym (by_byte true (eqb b 101) (begins counts_word (drop at text)) (eq-eqb b 99 e) refl refl); within = later text r (omega arith) t.within }

  pub link_line : {r : rust.Option (code.Line × ℕ)} → b ≢ 99 → b ≡ 101 → Taken text (at + 1) r (piece_of edge_line (two l)) → Taken text at r (line_at (drop at text))
  link_line {r} n e t = record { same = t.same ∙ sym (by_byte false true (begins counts_word (drop at text)) (ne_eqb b 99 n) (eq-eqb b 101 e) refl); within = later text r (omega arith) t.within }

  pub counts_line : {r : rust.Option (code.Line × ℕ)} → b ≢ 99 → b ≢ 101 → begins counts_word (drop at text) ≡ true → Taken text (at + 6) r (piece_of counts (two (drop (at + 6) text))) → Taken text at r (line_at (drop at text))
  counts_line {r} n m e t = record {
    same = t.same ∙ ap (λ (x : List ℕ). piece_of counts (two x)) (sym (drop-drop 6 at text)) ∙ sym (by_byte false false true (ne_eqb b 99 n) (ne_eqb b 101 m) e);
    within = later text r (omega arith) t.within;
  }

  pub other_line : b ≢ 99 → b ≢ 101 → begins counts_word (drop at text) ≡ false → Taken text at None (line_at (drop at text))
  other_line n m e = record { same = on_other n m e; within = omega arith }

  -- the words lie in the text
  pub words_within : begins counts_word (drop at text) ≡ true → at + 6 ≤ length text
  words_within e = omega (arith, ap length (begins_sound counts_word (drop at text) e), length-drop at text)

  -- the rest of the text, cut out of it
  pub begun : {r x : Bool} → r ≡ starts_with eqb (take (length text - at) (drop at text)) counts_word → r ≡ x → begins counts_word (drop at text) ≡ x
  begun e f = begins_is counts_word (drop at text) (e ∙ ap (λ (m : List ℕ). starts_with eqb m counts_word) (take_all (length text - at) (drop at text) (omega (arith, length-drop at text)))) f

  pub begun_in : {r : Bool} → r ≡ begins counts_word (take (length text - at) (drop at text)) → r ≡ begins counts_word (drop at text)
  begun_in e = e ∙ ap (begins counts_word) (take_all (length text - at) (drop at text) (omega (arith, length-drop at text)))

-- the place after a newline lies in the text
pub skipped_in : (text : List ℕ) (from : ℕ) {r : rust.Option ℕ} {e : ℕ} → r ≡ Some e → Skipped text from r → e ≤ length text
skipped_in text from z f = (subst (SkipWithin text from) z f.within).1
