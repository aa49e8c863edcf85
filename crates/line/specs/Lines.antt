-- A text is read as the request whose line it begins with (`asked_sound`), and each such text is read (`asked_complete`): so the reading of `Parse` is
-- that of the lines of `Text`, and a text states one request at most (`line_unique`). Assumes nothing.
use Rattle.std.specs.Prelude.{ℕ, zero, suc, ◌+◌, ◌-◌, ◌≤◌, ◌<◌, ◌≡◌, refl, Bool, true, false, ◌⊎◌, List, [], ◌∷◌, ◌++◌, length, take, drop}
use Rattle.std.proofs.Common.{sym, ap, ◌∙◌, subst, inl, inr, ⊎_elim, append_assoc, append-nil, arith, length-append, length-take, take-append-drop, eq-eqb}
use Rattle.std.proofs.Math.Option.{Option, none, some}
use Rattle.std.proofs.Math.Decide.{ℕ_discrete}
use Rattle.std.proofs.Math.Seq.{take-append-add}
use Rattle.scan.specs.Scan.{pick}
use Rattle.scan.specs.Laws.{true-or}
use Rattle.mesh.specs.Kinds.{CUBE, TWO}
use Rattle.decimal.specs.Digits.{digits}
use Rattle.decimal.specs.Number.{Number, bad, got, limit, on_digit, number, number_sound, number_complete}
use Rattle.line.specs.Text.{Request, cube_word, two_word, word, spaced, line_end, numbers, line_text, Below, most_targets, most_bytes, Stated, IsLine}
use Rattle.line.specs.Parse.{Field, end, broken, item, field_of, field, fields, request_of, begins, after, parse, asked, field_end, field_space, field-other, field-none, fields-end, fields-broken, fields-more, fields-full, begins_sound}

-- ---- each line is read

-- no digit follows a number
undigit : (ns rest : List ℕ) → on_digit (spaced ns ++ (10 ∷ rest)) ≡ false
unfolding spaced
undigit [] rest = refl
undigit (n ∷ ns) rest = refl

listed_item : (n : ℕ) (ns rest : List ℕ) → n < limit → field (spaced (n ∷ ns) ++ (10 ∷ rest)) ≡ item n (spaced ns ++ (10 ∷ rest))
unfolding spaced
listed_item n ns rest h =
    field_space ((digits n ++ spaced ns) ++ (10 ∷ rest))
    ∙ ap (λ (l : List ℕ). field_of (number l)) (append_assoc (digits n) (spaced ns) (10 ∷ rest))
    ∙ ap field_of (number_complete n (spaced ns ++ (10 ∷ rest)) h (undigit ns rest))

fields_complete : (ns : List ℕ) (room : ℕ) (seen rest : List ℕ) → length ns ≤ room → Below ns → fields room seen (spaced ns ++ (10 ∷ rest)) ≡ some (seen ++ ns)
unfolding spaced
fields_complete [] room seen rest h b = fields-end room seen (10 ∷ rest) (field_end rest) ∙ ap some (sym (append-nil seen))
fields_complete (n ∷ ns) zero seen rest h b = absurd (omega arith)
fields_complete (n ∷ ns) (suc room) seen rest h b =
    fields-more room seen (spaced (n ∷ ns) ++ (10 ∷ rest)) (listed_item n ns rest (b 0 (omega arith)))
    ∙ fields_complete ns room (seen ++ (n ∷ [])) rest (omega arith) (λ i g. b (suc i) (omega arith))
    ∙ ap some (append_assoc seen (n ∷ []) ns)

pub begins_complete : (ws l : List ℕ) → begins ws (ws ++ l) ≡ true
begins_complete [] l = refl
begins_complete (w ∷ ws) l = rw (eq-eqb w w refl) (begins_complete ws l)

line_split : (q : Request) (rest : List ℕ) → line_text q ++ rest ≡ word q.kind ++ (spaced (numbers q) ++ (10 ∷ rest))
line_split q rest =
    append_assoc (word q.kind) (spaced (numbers q) ++ line_end) rest
    ∙ ap (λ (l : List ℕ). word q.kind ++ l) (append_assoc (spaced (numbers q)) line_end rest)

parse-cube : (l : List ℕ) → parse (cube_word ++ l) ≡ after CUBE l
unfolding parse
parse-cube l = refl

parse-two : (l : List ℕ) → parse (two_word ++ l) ≡ after TWO l
unfolding parse
parse-two l = refl

parse-word : (kind : ℕ) (l : List ℕ) → (kind ≡ CUBE) ⊎ (kind ≡ TWO) → parse (word kind ++ l) ≡ after kind l
parse-word kind l (inl e) = ap (λ (k : ℕ). parse (word k ++ l)) e ∙ parse-cube l ∙ ap (λ (k : ℕ). after k l) (sym e)
parse-word kind l (inr e) = ap (λ (k : ℕ). parse (word k ++ l)) e ∙ parse-two l ∙ ap (λ (k : ℕ). after k l) (sym e)

parse_complete : (q : Request) (rest : List ℕ) → Stated q → parse (line_text q ++ rest) ≡ some q
parse_complete q rest s =
    ap parse (line_split q rest)
    ∙ parse-word q.kind (spaced (numbers q) ++ (10 ∷ rest)) s.kind
    ∙ ap (request_of q.kind) (fields_complete (numbers q) (most_targets + 2) [] rest (omega (arith, s.few)) s.below)

pub asked_complete : (text : List ℕ) (q : Request) → IsLine text q → asked text ≡ some q
unfolding asked
asked_complete text q l =
    ap (λ (t : List ℕ). parse (take most_bytes t)) l.spelt
    ∙ ap (λ (n : ℕ). parse (take n (line_text q ++ l.rest))) room
    ∙ ap parse (take-append-add (line_text q) l.rest (most_bytes - length (line_text q)))
    ∙ parse_complete q (take (most_bytes - length (line_text q)) l.rest) l.stated
  where
    room : most_bytes ≡ length (line_text q) + (most_bytes - length (line_text q))
    room = omega (arith, l.short)

-- ---- what is read is a line

not_some : {A B : Type 0} {a : A} → none ≡ some a → B
not_some e = let z : ◌≡◌ {A = ℕ} 0 1 = cc in absurd (omega arith)

pub same_some : {A : Type 0} {a b : A} → some a ≡ some b → a ≡ b
same_some e = cc

-- a field that is a number
pub record Item (text : List ℕ) (n : ℕ) (rest : List ℕ) : Type 0 where
  pub text_is : text ≡ 32 ∷ (digits n ++ rest)
  pub below : n < limit

field_is : (f : Field) {n : ℕ} {rest : List ℕ} {A : Type 0} → f ≡ end → f ≡ item n rest → A
field_is f p q = let z : ◌≡◌ {A = ℕ} 0 1 = cc in absurd (omega arith)

field_no : {f : Field} {n : ℕ} {rest : List ℕ} {A : Type 0} → f ≡ broken → f ≡ item n rest → A
field_no p q = let z : ◌≡◌ {A = ℕ} 0 1 = cc in absurd (omega arith)

field-not : {f : Field} {A : Type 0} → f ≡ broken → f ≡ end → A
field-not p q = let z : ◌≡◌ {A = ℕ} 0 1 = cc in absurd (omega arith)

got_of : (x : Number) {n : ℕ} {rest : List ℕ} → field_of x ≡ item n rest → x ≡ got n rest
got_of bad e = field_no refl e
got_of (got m l) e = cc

not_end : (x : Number) {A : Type 0} → field_of x ≡ end → A
not_end bad e = field-not refl e
not_end (got m l) e = field_is end refl (sym e)

pub item_sound : (text : List ℕ) {n : ℕ} {rest : List ℕ} → field text ≡ item n rest → Item text n rest
item_sound [] e = field_no field-none e
item_sound (b ∷ l) {n} {rest} e = go (ℕ_discrete b 10) (ℕ_discrete b 32)
  where
    go : Dec (b ≡ 10) → Dec (b ≡ 32) → Item (b ∷ l) n rest
    go (yes p) d = field_is (field (b ∷ l)) (ap (λ (x : ℕ). field (x ∷ l)) p ∙ field_end l) e
    go (no p) (no q) = field_no (field-other b l p q) e
    go (no p) (yes q) =
        let r = number_sound l n rest (got_of (number l) (sym (ap (λ (x : ℕ). field (x ∷ l)) q ∙ field_space l) ∙ e)) in
        record { text_is = ap (λ (x : ℕ). x ∷ l) q ∙ ap (λ (m : List ℕ). 32 ∷ m) r.spelt; below = r.below }

pub end_sound : (text : List ℕ) → field text ≡ end → (rest : List ℕ) × (text ≡ 10 ∷ rest)
end_sound [] e = field-not field-none e
end_sound (b ∷ l) e = go (ℕ_discrete b 10) (ℕ_discrete b 32)
  where
    go : Dec (b ≡ 10) → Dec (b ≡ 32) → (rest : List ℕ) × (b ∷ l ≡ 10 ∷ rest)
    go (yes p) d = (l, ap (λ (x : ℕ). x ∷ l) p)
    go (no p) (no q) = field-not (field-other b l p q) e
    go (no p) (yes q) = not_end (number l) (sym (ap (λ (x : ℕ). field (x ∷ l)) q ∙ field_space l) ∙ e)

-- numbers up to a line end, behind those seen
pub record Listed (room : ℕ) (seen text all : List ℕ) : Type 0 where
  pub ns : List ℕ
  pub rest : List ℕ
  pub seen_is : all ≡ seen ++ ns
  pub text_is : text ≡ spaced ns ++ (10 ∷ rest)
  pub few : length ns ≤ room
  pub below : Below ns

listed-none : (room : ℕ) (seen text all : List ℕ) → field text ≡ end → fields room seen text ≡ some all → Listed room seen text all
unfolding spaced
listed-none room seen text all p e =
    let r = end_sound text p in
    record {
      ns = [];
      rest = r.0;
      seen_is = same_some (sym e ∙ fields-end room seen text p) ∙ sym (append-nil seen);
      text_is = r.1;
      few = omega arith;
      below = λ i g. absurd (omega arith);
    }

below_more : (n : ℕ) (ns : List ℕ) → n < limit → Below ns → Below (n ∷ ns)
below_more n ns h b zero g = h
below_more n ns h b (suc i) g = b i (omega arith)

listed_more : (room : ℕ) (seen text all : List ℕ) {n : ℕ} {rest : List ℕ} → Item text n rest → Listed room (seen ++ (n ∷ [])) rest all → Listed (suc room) seen text all
unfolding spaced
listed_more room seen text all {n} {rest} i r = record {
  ns = n ∷ r.ns;
  rest = r.rest;
  seen_is = r.seen_is ∙ append_assoc seen (n ∷ []) r.ns;
  text_is = i.text_is ∙ ap (λ (l : List ℕ). 32 ∷ (digits n ++ l)) r.text_is ∙ ap (λ (l : List ℕ). 32 ∷ l) (sym (append_assoc (digits n) (spaced r.ns) (10 ∷ r.rest)));
  few = omega (arith, r.few);
  below = below_more n r.ns i.below r.below;
}

-- a field is an end, broken or a number
which : (f : Field) → (f ≡ end) ⊎ ((f ≡ broken) ⊎ ((n : ℕ) × (rest : List ℕ) × (f ≡ item n rest)))
which end = inl refl
which broken = inr (inl refl)
which (item n rest) = inr (inr (n, rest, refl))

fields_sound : (room : ℕ) (seen text all : List ℕ) → fields room seen text ≡ some all → Listed room seen text all
fields_sound zero seen text all e = go (which (field text))
  where
    go : (field text ≡ end) ⊎ ((field text ≡ broken) ⊎ ((n : ℕ) × (rest : List ℕ) × (field text ≡ item n rest))) → Listed zero seen text all
    go (inl p) = listed-none zero seen text all p e
    go (inr (inl p)) = not_some (sym (fields-broken zero seen text p) ∙ e)
    go (inr (inr (n, rest, p))) = not_some (sym (fields-full seen text p) ∙ e)
fields_sound (suc room) seen text all e = go (which (field text)) (λ n rest. fields_sound room (seen ++ (n ∷ [])) rest all)
  where
    go : (field text ≡ end) ⊎ ((field text ≡ broken) ⊎ ((n : ℕ) × (rest : List ℕ) × (field text ≡ item n rest)))
        → ((n : ℕ) (rest : List ℕ) → fields room (seen ++ (n ∷ [])) rest ≡ some all → Listed room (seen ++ (n ∷ [])) rest all) → Listed (suc room) seen text all
    go (inl p) rec = listed-none (suc room) seen text all p e
    go (inr (inl p)) rec = not_some (sym (fields-broken (suc room) seen text p) ∙ e)
    go (inr (inr (n, rest, p))) rec = listed_more room seen text all (item_sound text p) (rec n rest (sym (fields-more room seen text p) ∙ e))

request_sound : (kind : ℕ) (o : Option (List ℕ)) {q : Request} → request_of kind o ≡ some q → (o ≡ some (numbers q)) × (kind ≡ q.kind)
request_sound kind none e = not_some e
request_sound kind (some []) e = not_some e
request_sound kind (some (size ∷ [])) e = not_some e
request_sound kind (some (size ∷ source ∷ targets)) e = let same = same_some e in (ap (λ (r : Request). some (numbers r)) same, ap (λ (r : Request). r.kind) same)

-- a text that begins with the line of a request
pub record Parsed (text : List ℕ) (q : Request) : Type 0 where
  pub stated : Stated q
  pub rest : List ℕ
  pub spelt : text ≡ line_text q ++ rest

after_sound : (kind : ℕ) (text rest : List ℕ) (q : Request) → (kind ≡ CUBE) ⊎ (kind ≡ TWO) → text ≡ word kind ++ rest → after kind rest ≡ some q → Parsed text q
after_sound kind text rest q k t e =
    let r = request_sound kind (fields (most_targets + 2) [] rest) e in
    let l = fields_sound (most_targets + 2) [] rest (numbers q) r.0 in
    let all : numbers q ≡ l.ns = l.seen_is in
    record {
      stated = record {
        kind = ⊎_elim (λ (p : kind ≡ CUBE). inl (sym r.1 ∙ p)) (λ (p : kind ≡ TWO). inr (sym r.1 ∙ p)) k;
        below = subst Below (sym all) l.below;
        few = omega (arith, l.few, ap length all);
      };
      rest = l.rest;
      spelt =
          t ∙ ap (λ (m : List ℕ). word kind ++ m) l.text_is
          ∙ ap (λ (m : List ℕ). word kind ++ (spaced m ++ (10 ∷ l.rest))) (sym all)
          ∙ ap (λ (x : ℕ). word x ++ (spaced (numbers q) ++ (10 ∷ l.rest))) r.1
          ∙ sym (line_split q l.rest);
    }

parse_sound : (text : List ℕ) (q : Request) → parse text ≡ some q → Parsed text q
unfolding parse
parse_sound text q e = go (true-or (begins cube_word text)) (true-or (begins two_word text))
  where
    rest : Option Request
    rest = pick (begins two_word text) (after TWO (drop 3 text)) none

    go : (begins cube_word text ≡ true) ⊎ (begins cube_word text ≡ false) → (begins two_word text ≡ true) ⊎ (begins two_word text ≡ false) → Parsed text q
    go (inl c) d = after_sound CUBE text (drop 4 text) q (inl refl) (begins_sound cube_word text c) (sym (ap (λ (x : Bool). pick x (after CUBE (drop 4 text)) rest) c) ∙ e)
    go (inr c) (inl t) = after_sound TWO text (drop 3 text) q (inr refl) (begins_sound two_word text t)
        (sym (ap (λ (x : Bool). pick x (after CUBE (drop 4 text)) rest) c ∙ ap (λ (x : Bool). pick x (after TWO (drop 3 text)) none) t) ∙ e)
    go (inr c) (inr t) = not_some (sym (ap (λ (x : Bool). pick x (after CUBE (drop 4 text)) rest) c ∙ ap (λ (x : Bool). pick x (after TWO (drop 3 text)) none) t) ∙ e)

pub asked_sound : (text : List ℕ) (q : Request) → asked text ≡ some q → IsLine text q
unfolding asked
asked_sound text q e =
    let p = parse_sound (take most_bytes text) q e in
    record {
      stated = p.stated;
      rest = p.rest ++ drop most_bytes text;
      spelt = sym (take-append-drop most_bytes text) ∙ ap (λ (l : List ℕ). l ++ drop most_bytes text) p.spelt ∙ append_assoc (line_text q) p.rest (drop most_bytes text);
      short = omega (arith, length-take most_bytes text, ap length p.spelt, length-append (line_text q) p.rest);
    }

-- a text states one request
pub line_unique : (text : List ℕ) (q r : Request) → IsLine text q → IsLine text r → q ≡ r
line_unique text q r a b = same_some (sym (asked_complete text q a) ∙ asked_complete text r b)
