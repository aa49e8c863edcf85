-- Each promise leaves one answer: any two that tell what it says are equal, and what it leaves in a slice is given outright. Assumes nothing.
use Rattle.std.specs.Prelude.{ℕ, ◌≡◌, Bool, List, Result}
use Rattle.std.proofs.Common.{sym, ◌∙◌}
use Rattle.answers.specs.Told.{answer_told, yes_no_told}
use Rattle.answers.specs.Laws.{answer_unique, yes_no_unique}
use Rattle.answers.specs.declared.Refusal.{Refusal}
use Rattle.cube.specs.Says.{fact_told, linked_told, next_told, route_told}

pub fact_unique : (n fact : ℕ) (a b : Result ℕ Refusal) → answer_told a ≡ fact_told n fact → answer_told b ≡ fact_told n fact → a ≡ b
fact_unique n fact a b p q = answer_unique a b (p ∙ sym q)

pub linked_unique : (n s t : ℕ) (a b : Result Bool Refusal) → yes_no_told a ≡ linked_told n s t → yes_no_told b ≡ linked_told n s t → a ≡ b
linked_unique n s t a b p q = yes_no_unique a b (p ∙ sym q)

pub next_unique : (n s t : ℕ) (a b : Result ℕ Refusal) → answer_told a ≡ next_told n s t → answer_told b ≡ next_told n s t → a ≡ b
next_unique n s t a b p q = answer_unique a b (p ∙ sym q)

pub route_unique : (n s t : ℕ) (out : List ℕ) (a b : Result ℕ Refusal) → answer_told a ≡ route_told n s t out → answer_told b ≡ route_told n s t out → a ≡ b
route_unique n s t out a b p q = answer_unique a b (p ∙ sym q)
