-- What the promise of the way round leaves open: which shortest path is written, and what the working room holds after a search. Any two results have the same answer
-- (`rounded_one`), and 45 is told exactly where no path of running relays joins the two (`none_exactly`). Assumes nothing.
use Rattle.std.specs.Prelude.{ℕ, ◌≡◌, refl, ◌⊎◌, List, Result, Ok, Err}
use Rattle.std.proofs.Common.{sym, ap, ◌∙◌, inl, inr, arith}
use Rattle.std.proofs.Math.Option.{Option, none, some}
use Rattle.answers.specs.declared.Refusal.{Refusal}
use Rattle.answers.specs.declared.Refusal.TheVariants.{NoPath}
use Rattle.paths.specs.Mesh.{Mesh}
use Rattle.paths.specs.Ways.{Way, shortest_one}
use Rattle.around.specs.Says.{Nowhere, Somewhere, Rounded}

module _ {m : Mesh} {s t : ℕ} {out : List ℕ} where
  same_answer : {r q : Result ℕ Refusal} {b d : List ℕ} → Nowhere m s t out r b ⊎ Somewhere m s t out r b → Nowhere m s t out q d ⊎ Somewhere m s t out q d → r ≡ q
  same_answer (inl x) (inl y) = x.told ∙ sym y.told
  same_answer (inl x) (inr y) = absurd (x.none y.hops y.least.way)
  same_answer (inr x) (inl y) = absurd (y.none x.hops x.least.way)
  same_answer (inr x) (inr y) = x.told ∙ ap (λ (x : ℕ). Ok x) (shortest_one m s t x.hops y.hops x.least y.least) ∙ sym y.told

module _ {m : Mesh} {s t : ℕ} {room out : List ℕ} where
  pub rounded_one : (o : Option Refusal) {r q : Result ℕ Refusal} {a b c d : List ℕ} → Rounded o m s t room out r a b → Rounded o m s t room out q c d → r ≡ q
  rounded_one (some why) R Q = (R.refused why refl).0 ∙ sym (Q.refused why refl).0
  rounded_one none R Q = same_answer (R.sought refl) (Q.sought refl)

  -- 45 exactly where there is no path
  pub none_exactly : {r : Result ℕ Refusal} {a b : List ℕ} → Rounded none m s t room out r a b → r ≡ Err NoPath → (n : ℕ) → Way m n s t → ⊥
  none_exactly R e = go (R.sought refl) e
    where
      go : {r : Result ℕ Refusal} {b : List ℕ} → Nowhere m s t out r b ⊎ Somewhere m s t out r b → r ≡ Err NoPath → (n : ℕ) → Way m n s t → ⊥
      go (inl x) e = x.none
      go (inr x) e = absurd (apart (sym x.told ∙ e))
        where
          apart : {v : ℕ} → ◌≡◌ {A = Result ℕ Refusal} (Ok v) (Err NoPath) → ⊥
          apart e = let z : ◌≡◌ {A = ℕ} 0 1 = cc in omega arith

  pub none_then : {r : Result ℕ Refusal} {a b : List ℕ} → Rounded none m s t room out r a b → ((n : ℕ) → Way m n s t → ⊥) → r ≡ Err NoPath
  none_then R h = go (R.sought refl)
    where
      go : {r : Result ℕ Refusal} {b : List ℕ} → Nowhere m s t out r b ⊎ Somewhere m s t out r b → r ≡ Err NoPath
      go (inl x) = x.told
      go (inr x) = absurd (h x.hops x.least.way)
