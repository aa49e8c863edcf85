-- The request that the parts of a line make, as the definitions have it. Assumes nothing.
use Rattle.std.specs.Prelude.{ℕ, zero, suc, ◌+◌, ◌-◌, ◌≤◌, ◌<◌, ◌≡◌, refl, List, [], ◌∷◌, length, get_or, take, drop}
use Rattle.std.specs.Prelude as rust
use Rattle.std.specs.Prelude.{Some, None}
use Rattle.std.proofs.Common.{sym, ap, ◌∙◌, subst, arith, length-take}
use Rattle.std.proofs.Math.Option.{Option, none, some}
use Rattle.line.specs.Text.{Request, most_targets}
use Rattle.line.specs.Parse.{fields, request_of, parse}
use Rattle.line_take.specs.Reads.{fields_told, FieldsWithin, ReadFields, word_told, WordWithin, ReadWord}

-- the request of a kind whose numbers stand in a list
abbrev pub request_in : ℕ → ℕ → List ℕ → Request
request_in kind count numbers = record { kind = kind; size = get_or numbers 0 0; source = get_or numbers 1 0; targets = take count (drop 2 numbers) }

abbrev pub parsed_told : List ℕ → rust.Option (ℕ × ℕ) → Option Request
parsed_told numbers (Some (kind, count)) = some (request_in kind count numbers)
parsed_told numbers None = none

abbrev pub ParsedWithin : List ℕ → rust.Option (ℕ × ℕ) → Type 0
ParsedWithin numbers (Some (kind, count)) = count + 2 ≤ length numbers
ParsedWithin numbers None = 0 ≤ length numbers

pub record ReadRequest (numbers : List ℕ) (r : rust.Option (ℕ × ℕ)) (q : Option Request) : Type 0 where
  pub same : parsed_told numbers r ≡ q
  pub within : ParsedWithin numbers r

-- ---- by its numbers

few-numbers : (kind : ℕ) (l : List ℕ) → length l < 2 → request_of kind (some l) ≡ none
few-numbers kind [] h = refl
few-numbers kind (a ∷ []) h = refl
few-numbers kind (a ∷ b ∷ l) h = absurd (omega arith)

enough_numbers : (kind k : ℕ) (l : List ℕ) → 2 ≤ k → k ≤ length l → request_of kind (some (take k l)) ≡ some (request_in kind (k - 2) l)
enough_numbers kind zero l g h = absurd (omega arith)
enough_numbers kind (suc zero) l g h = absurd (omega arith)
enough_numbers kind (suc (suc k)) [] g h = absurd (omega arith)
enough_numbers kind (suc (suc k)) (a ∷ []) g h = absurd (omega arith)
enough_numbers kind (suc (suc k)) (a ∷ b ∷ l) g h =
    let same : k ≡ suc (suc k) - 2 = omega arith in
    ap (λ (n : ℕ). some (record { kind = kind; size = a; source = b; targets = take n l })) same

-- ---- by its first word and its fields

module _ (text numbers₀ numbers : List ℕ) (long : length numbers₀ ≡ most_targets + 2) where
  pub request_no_word : {w : rust.Option (ℕ × ℕ)} → ReadWord text w → w ≡ None → ReadRequest numbers None (parse text)
  request_no_word r e = record { same = sym (ap (word_told text) e) ∙ r.same; within = omega arith }

  module _ {w : rust.Option (ℕ × ℕ)} {kind at : ℕ} (r : ReadWord text w) (e : w ≡ Some (kind, at)) where
    pub word_within : at ≤ length text
    word_within = subst (WordWithin text) e r.within

    module _ {f : rust.Option ℕ} (all : ReadFields numbers f (fields (length numbers₀) [] (drop at text))) where
      parsed : parse text ≡ request_of kind (fields_told numbers f)
      parsed = sym r.same ∙ ap (word_told text) e ∙ ap (request_of kind) (ap (λ (n : ℕ). fields n [] (drop at text)) (sym long) ∙ sym all.same)

      pub request_broken : f ≡ None → ReadRequest numbers None (parse text)
      request_broken b = record { same = sym (parsed ∙ ap (λ (x : rust.Option ℕ). request_of kind (fields_told numbers x)) b); within = omega arith }

      module _ {k : ℕ} (b : f ≡ Some k) where
        counted : parse text ≡ request_of kind (some (take k numbers))
        counted = parsed ∙ ap (λ (x : rust.Option ℕ). request_of kind (fields_told numbers x)) b

        fits : k ≤ length numbers
        fits = subst (FieldsWithin numbers) b all.within

        pub request_few : k < 2 → ReadRequest numbers None (parse text)
        request_few h = record { same = sym (counted ∙ few-numbers kind (take k numbers) (omega (arith, length-take k numbers))); within = omega arith }

        pub request_read : 2 ≤ k → ReadRequest numbers (Some (kind, k - 2)) (parse text)
        request_read h = record { same = sym (counted ∙ enough_numbers kind k numbers h fits); within = omega (arith, fits) }
