-- How a line is read (`asked`): a word, then numbers with a space before each up to the line end. That this reads the lines of `Text` and no other
-- text is proved in `Lines`. Assumes nothing.
use Prim.Native.Nat.{ℕ, zero, suc, ◌+◌}
use Rattle.std.specs.Prelude.{◌≡◌, refl, Bool, true, false, ◌≢◌, List, [], ◌∷◌, ◌++◌, eqb, length, take, drop}
use Rattle.std.proofs.Common.{sym, ◌∙◌, ⊎_elim, eqb-true, ne_eqb}
use Rattle.std.proofs.Math.Path.{ap}
use Rattle.std.proofs.Math.Option.{Option, none, some}
use Rattle.scan.specs.Scan.{pick}
use Rattle.scan.specs.Laws.{true-or, true-false}
use Rattle.mesh.specs.Kinds.{CUBE, TWO}
use Rattle.decimal.specs.Number.{Number, bad, got, number, more}
use Rattle.line.specs.Text.{Request, cube_word, two_word, most_targets, most_bytes}

-- ---- the reading

-- what stands next after a word or a number: the line end, a space and a number, or what no line has there
pub data Field : Type 0 where
  end : Field
  broken : Field
  item : ℕ → List ℕ → Field

abbrev pub field_of : Number → Field
field_of bad = broken
field_of (got n rest) = item n rest

unfoldable pub field : List ℕ → Field
field [] = broken
field (b ∷ l) = pick (eqb b 10) end (pick (eqb b 32) (field_of (number l)) broken)

abbrev pub on_field : {A : Type 0} → Field → A → A → (ℕ → List ℕ → A) → A
on_field end a b f = a
on_field broken a b f = b
on_field (item n rest) a b f = f n rest

-- the numbers up to the line end, behind those seen already; there may be so many more
unfoldable pub fields : ℕ → List ℕ → List ℕ → Option (List ℕ)
fields zero seen text = on_field (field text) (some seen) none (λ n rest. none)
fields (suc room) seen text = on_field (field text) (some seen) none (λ n rest. fields room (seen ++ (n ∷ [])) rest)

-- size, source and targets
abbrev pub request_of : ℕ → Option (List ℕ) → Option Request
request_of kind none = none
request_of kind (some []) = none
request_of kind (some (size ∷ [])) = none
request_of kind (some (size ∷ source ∷ targets)) = some (record { kind = kind; size = size; source = source; targets = targets })

-- whether a text begins with a word
abbrev pub begins : List ℕ → List ℕ → Bool
begins [] text = true
begins (w ∷ ws) [] = false
begins (w ∷ ws) (b ∷ l) = pick (eqb b w) (begins ws l) false

-- the request of a kind whose word is passed
abbrev pub after : ℕ → List ℕ → Option Request
after kind rest = request_of kind (fields (most_targets + 2) [] rest)

unfoldable pub parse : List ℕ → Option Request
parse text = pick (begins cube_word text) (after CUBE (drop 4 text)) (pick (begins two_word text) (after TWO (drop 3 text)) none)

-- the request that a text states, if there is one; only its first 1,024 bytes are looked at
unfoldable pub asked : List ℕ → Option Request
asked text = parse (take most_bytes text)

worked : asked (116 ∷ 119 ∷ 111 ∷ 32 ∷ 49 ∷ 32 ∷ 48 ∷ 32 ∷ 53 ∷ 32 ∷ 49 ∷ 10 ∷ 7 ∷ []) ≡ some (record { kind = 2; size = 1; source = 0; targets = 5 ∷ 1 ∷ [] })
unfolding asked parse fields field number more
worked = refl

-- ---- step by step

pub field_end : (l : List ℕ) → field (10 ∷ l) ≡ end
unfolding field
field_end l = refl

pub field_space : (l : List ℕ) → field (32 ∷ l) ≡ field_of (number l)
unfolding field
field_space l = refl

pub field-other : (b : ℕ) (l : List ℕ) → b ≢ 10 → b ≢ 32 → field (b ∷ l) ≡ broken
unfolding field
field-other b l p q = rw (ne_eqb b 10 p) (rw (ne_eqb b 32 q))

pub field-none : field [] ≡ broken
unfolding field
field-none = refl

module _ (room : ℕ) (seen text : List ℕ) where
  pub fields-end : field text ≡ end → fields room seen text ≡ some seen
  unfolding fields
  fields-end e = go room
    where
      go : (room : ℕ) → fields room seen text ≡ some seen
      go zero = ap (λ (f : Field). on_field f (some seen) none (λ n rest. none)) e
      go (suc room) = ap (λ (f : Field). on_field f (some seen) none (λ n rest. fields room (seen ++ (n ∷ [])) rest)) e

  pub fields-broken : field text ≡ broken → fields room seen text ≡ none
  unfolding fields
  fields-broken e = go room
    where
      go : (room : ℕ) → fields room seen text ≡ none
      go zero = ap (λ (f : Field). on_field f (some seen) none (λ n rest. none)) e
      go (suc room) = ap (λ (f : Field). on_field f (some seen) none (λ n rest. fields room (seen ++ (n ∷ [])) rest)) e

  pub fields-more : {n : ℕ} {rest : List ℕ} → field text ≡ item n rest → fields (suc room) seen text ≡ fields room (seen ++ (n ∷ [])) rest
  unfolding fields
  fields-more e = ap (λ (f : Field). on_field f (some seen) none (λ n rest. fields room (seen ++ (n ∷ [])) rest)) e

pub fields-full : (seen text : List ℕ) {n : ℕ} {rest : List ℕ} → field text ≡ item n rest → fields 0 seen text ≡ none
unfolding fields
fields-full seen text e = ap (λ (f : Field). on_field f (some seen) none (λ n rest. none)) e

pub begins_sound : (ws text : List ℕ) → begins ws text ≡ true → text ≡ ws ++ drop (length ws) text
begins_sound [] text e = refl
begins_sound (w ∷ ws) [] e = absurd (true-false e refl)
begins_sound (w ∷ ws) (b ∷ l) e = ⊎_elim
    (λ (t : eqb b w ≡ true).
    ap (λ (x : ℕ). x ∷ l) (eqb-true b w t)
    ∙ ap (λ (m : List ℕ). w ∷ m) (begins_sound ws l (sym (ap (λ (x : Bool). pick x (begins ws l) false) t) ∙ e)))
    (λ (f : eqb b w ≡ false). absurd (true-false e (ap (λ (x : Bool). pick x (begins ws l) false) f)))
    (true-or (eqb b w))
