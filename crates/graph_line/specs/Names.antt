-- A line that names a mesh (`named`): a word, `cube` or `two`, a space, the size, and a line end, as the front of a request line of `line`. And the text of an answer that refuses (`refusal`). Assumes nothing.
use Rattle.std.specs.Prelude.{ℕ, zero, suc, ◌+◌, ◌^◌, ◌≤◌, ◌<◌, ◌≡◌, refl, Bool, true, false, ◌≢◌, List, [], ◌∷◌, ◌++◌, length, get_or, take, drop}
use Rattle.std.specs.Prelude as rust
use Rattle.std.specs.Prelude.{Some, None}
use Rattle.std.proofs.Common.{sym, ap, ◌∙◌, subst, arith, length-append}
use Rattle.std.proofs.Math.Option.{Option, none, some}
use Rattle.scan.specs.Scan.{pick}
use Rattle.decimal.specs.Number.{limit, number, more}
use Rattle.mesh.specs.Kinds.{CUBE, TWO}
use Rattle.line.specs.Text.{cube_word, two_word, spaced, line_end}
use Rattle.line.specs.Parse.{field, fields, begins, begins_sound}
use Rattle.line.specs.Written.{refused_word}
use Rattle.line_put.specs.Writes.{spaced-short}
use Rattle.line_take.specs.Reads.{ReadFields, fields_told, FieldsWithin}
use Rattle.mesh.specs.declared.Mesh.{Mesh}

-- a kind and a size, or none
pub data Name : Type 0 where
  nothing : Name
  mesh : (kind size : ℕ) → Name

-- exactly one number
abbrev pub alone : ℕ → Option (List ℕ) → Name
alone kind none = nothing
alone kind (some []) = nothing
alone kind (some (size ∷ [])) = mesh kind size
alone kind (some (size ∷ other ∷ l)) = nothing

abbrev pub sized : ℕ → List ℕ → Name
sized kind rest = alone kind (fields 1 [] rest)

abbrev pub named : List ℕ → Name
named text = pick (begins cube_word text) (sized CUBE (drop 4 text)) (pick (begins two_word text) (sized TWO (drop 3 text)) nothing)

-- `two 2`
worked : named (116 ∷ 119 ∷ 111 ∷ 32 ∷ 50 ∷ 10 ∷ 7 ∷ []) ≡ mesh 2 2
unfolding fields field number more
worked = refl

abbrev pub named_of : rust.Option Mesh → Name
named_of (Some m) = mesh m.kind m.size
named_of None = nothing

abbrev pub refusal : ℕ → ℕ → List ℕ
refusal n p = refused_word ++ (spaced (n ∷ p ∷ []) ++ line_end)

-- ---- as code reads it

module _ (kind : ℕ) (rest out : List ℕ) {r : rust.Option ℕ} (f : ReadFields out r (fields 1 [] rest)) where
  pub no_number : r ≡ None → nothing ≡ sized kind rest
  no_number e = ap (alone kind) (sym (ap (fields_told out) e) ∙ f.same)

  module _ (long : length out ≡ 1) {n : ℕ} (e : r ≡ Some n) where
    told : alone kind (some (take n out)) ≡ sized kind rest
    told = ap (alone kind) (sym (ap (fields_told out) e) ∙ f.same)

    pub one_number : n ≡ 1 → mesh kind (get_or out 0 0) ≡ sized kind rest
    one_number z = go out long ∙ ap (λ (k : ℕ). alone kind (some (take k out))) (sym z) ∙ told
      where
        go : (l : List ℕ) → length l ≡ 1 → mesh kind (get_or l 0 0) ≡ alone kind (some (take 1 l))
        go [] h = absurd (omega arith)
        go (x ∷ l) h = refl

    pub none-there : n ≢ 1 → nothing ≡ sized kind rest
    none-there ne =
        let w : n ≤ length out = subst (FieldsWithin out) e f.within in
        let z : n ≡ 0 = omega arith in
        ap (λ (k : ℕ). alone kind (some (take k out))) (sym z) ∙ told

module _ (text : List ℕ) where
  begun : (ws : List ℕ) → begins ws text ≡ true → length ws ≤ length text
  begun ws e = omega (arith, ap length (begins_sound ws text e), length-append ws (drop (length ws) text))

  pub cube_within : begins cube_word text ≡ true → 4 ≤ length text
  cube_within e = begun cube_word e

  pub two_within : begins two_word text ≡ true → 3 ≤ length text
  two_within e = begun two_word e

  pub name_cube : {x : Name} → begins cube_word text ≡ true → x ≡ sized CUBE (drop 4 text) → x ≡ named text
  name_cube e z = z ∙ ap (λ (b : Bool). pick b (sized CUBE (drop 4 text)) (pick (begins two_word text) (sized TWO (drop 3 text)) nothing)) (sym e)

  module _ (c : begins cube_word text ≡ false) where
    by_two : pick (begins two_word text) (sized TWO (drop 3 text)) nothing ≡ named text
    by_two = ap (λ (b : Bool). pick b (sized CUBE (drop 4 text)) (pick (begins two_word text) (sized TWO (drop 3 text)) nothing)) (sym c)

    pub name_two : {x : Name} → begins two_word text ≡ true → x ≡ sized TWO (drop 3 text) → x ≡ named text
    name_two e z = z ∙ ap (λ (b : Bool). pick b (sized TWO (drop 3 text)) nothing) (sym e) ∙ by_two

    pub name_none : begins two_word text ≡ false → nothing ≡ named text
    name_none e = ap (λ (b : Bool). pick b (sized TWO (drop 3 text)) nothing) (sym e) ∙ by_two

-- a refusal takes 50 bytes at most
pub refusal-short : (n p : ℕ) → n < limit → p < limit → length (refusal n p) ≤ 50
refusal-short n p h g = omega (arith, length-append refused_word (spaced (n ∷ p ∷ []) ++ line_end), length-append (spaced (n ∷ p ∷ [])) line_end, spaced-short (n ∷ p ∷ []) small)
  where
    small : (i : ℕ) → get_or (n ∷ p ∷ []) i 0 < limit
    small zero = h
    small (suc zero) = g
    small (suc (suc i)) = omega arith
