-- Targets copied from the numbers of a line to the front of a lent slice (`Copying`). Assumes nothing.
use Rattle.std.specs.Prelude.{ℕ, ◌+◌, ◌≤◌, ◌<◌, ◌≡◌, refl, List, ◌∷◌, ◌++◌, length, get_or, set, take, drop}
use Rattle.std.proofs.Common.{sym, ap, ◌∙◌, arith, add-one, length-set, length-drop, take-suc, length-take-le, drop-cons, get_or-drop}
use Rattle.std.proofs.lemmas.List.{set_at}
use Rattle.std.proofs.Math.Seq.{append_snoc}

-- a loop that copies has come to i
pub record Copying (numbers targets₀ targets : List ℕ) (count i : ℕ) : Type 0 where
  pub within : i ≤ count
  pub long : length targets ≡ length targets₀
  pub same : targets ≡ take i (drop 2 numbers) ++ drop i targets₀

module _ (numbers targets₀ : List ℕ) (count : ℕ) (enough : (count + 2 ≤ length numbers) × (count ≤ length targets₀)) where
  pub copying_start : Copying numbers targets₀ targets₀ count 0
  copying_start = record { within = omega arith; long = refl; same = refl }

  module _ {targets : List ℕ} {i : ℕ} (c : Copying numbers targets₀ targets count i) where
    one_more : i < count → set (take i (drop 2 numbers) ++ drop i targets₀) i (get_or (drop 2 numbers) i 0) ≡ take (i + 1) (drop 2 numbers) ++ drop (i + 1) targets₀
    one_more h =
        let g : i < length (drop 2 numbers) = omega (arith, length-drop 2 numbers, enough.0) in
        ap (λ (l : List ℕ). set (take i (drop 2 numbers) ++ l) i (get_or (drop 2 numbers) i 0)) (drop-cons targets₀ i 0 (omega (arith, enough.1)) ∙ ap (λ (n : ℕ). get_or targets₀ i 0 ∷ drop n targets₀) (sym (add-one i)))
        ∙ set_at (take i (drop 2 numbers)) (get_or targets₀ i 0) (drop (i + 1) targets₀) (get_or (drop 2 numbers) i 0) i (length-take-le i (drop 2 numbers) (omega arith))
        ∙ sym (append_snoc (take i (drop 2 numbers)) (get_or (drop 2 numbers) i 0) (drop (i + 1) targets₀))
        ∙ ap (λ (l : List ℕ). l ++ drop (i + 1) targets₀) (sym (take-suc (drop 2 numbers) i 0 g) ∙ ap (λ (k : ℕ). take k (drop 2 numbers)) (sym (add-one i)))

    pub copying_more : i < count → Copying numbers targets₀ (set targets i (get_or numbers (i + 2) 0)) count (i + 1)
    copying_more h = record {
      within = omega arith;
      long = length-set targets i (get_or numbers (i + 2) 0) ∙ c.long;
      same =
          ap (λ (l : List ℕ). set l i (get_or numbers (i + 2) 0)) c.same
          ∙ ap (set (take i (drop 2 numbers) ++ drop i targets₀) i) (ap (λ (k : ℕ). get_or numbers k 0) (omega arith) ∙ sym (get_or-drop 2 numbers i 0))
          ∙ one_more h;
    }

    pub copying_all : count ≤ i → targets ≡ take count (drop 2 numbers) ++ drop count targets₀
    copying_all h = let e : i ≡ count = omega (arith, c.within) in c.same ∙ ap (λ (k : ℕ). take k (drop 2 numbers) ++ drop k targets₀) e
