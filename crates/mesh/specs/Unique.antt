-- Each promise leaves one answer: any two that tell what it says are equal (`one_answer`, `one_yes_no`), a kind and a size have one shape (`shape_unique`), and what is
-- left in a slice is given outright. Assumes nothing.
use Rattle.std.specs.Prelude.{ℕ, ◌≡◌, Bool, true, false, Option, Some, None, Result}
use Rattle.std.proofs.Common.{sym, ap, ◌∙◌}
use Rattle.answers.specs.Told.{Told, answer_told, yes_no_told}
use Rattle.answers.specs.Laws.{answer_unique, yes_no_unique}
use Rattle.answers.specs.declared.Refusal.{Refusal}
use Rattle.mesh.specs.Kinds.{Kind, kind_of}
use Rattle.mesh.specs.Shaped.{Shaped, in_kind}
use Rattle.mesh.specs.declared.Shape.{Shape}
use Rattle.mesh.specs.declared.Shape.TheVariants.{Cube, Two, Meta}

-- of facts, next hop, route and distance
pub one_answer : (x : Told ℕ) (a b : Result ℕ Refusal) → answer_told a ≡ x → answer_told b ≡ x → a ≡ b
one_answer x a b p q = answer_unique a b (p ∙ sym q)

-- of links
pub one_yes_no : (x : Told Bool) (a b : Result Bool Refusal) → yes_no_told a ≡ x → yes_no_told b ≡ x → a ≡ b
one_yes_no x a b p q = yes_no_unique a b (p ∙ sym q)

-- the shape of a size of a kind, which two answers of the kind tell
shape_in : (planned undistanced : Bool) (n : ℕ) → Option Shape
shape_in true true n = Some (Cube (record { 0 = n }))
shape_in true false n = Some (Two (record { 0 = n }))
shape_in false true n = Some (Meta (record { 0 = n }))
shape_in false false n = None

abbrev shape_of : Kind → ℕ → Option Shape
shape_of K n = shape_in K.planned (K.undistanced 1) n

shaped_is : (r : Option Shape) (k n : ℕ) → Shaped r k n → r ≡ shape_of (kind_of k) n
unfolding shape_in
shaped_is (Some (Cube size)) k n e = in_kind shape_of e
shaped_is (Some (Two order)) k n e = in_kind shape_of e
shaped_is (Some (Meta size)) k n e = in_kind shape_of e
shaped_is None k n e = ap (λ (K : Kind). shape_of K n) e

-- of a shape
pub shape_unique : (k n : ℕ) (r q : Option Shape) → Shaped r k n → Shaped q k n → r ≡ q
shape_unique k n r q a b = shaped_is r k n a ∙ sym (shaped_is q k n b)
