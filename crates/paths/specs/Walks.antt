-- Laws of plain routes, over any next hop. Assumes nothing.
--
-- `hops_is`: the walk that arrives after k steps has k hops. `route-..`: what a loop that writes the route needs.
use Prim.Native.Nat.{ℕ, zero, suc, ◌+◌, ◌≤◌, ◌<◌}
use Rattle.std.specs.Prelude.{◌≡◌, length, drop, set}
use Rattle.std.proofs.Math.Path.{refl, ap}
use Rattle.std.proofs.Common.{sym, ◌∙◌, arith, drop-cons}
use mathlib.Core.List.{List, [], ◌∷◌, ◌++◌, append_assoc}
use Rattle.std.proofs.Math.Numerals.{add-one}
use Rattle.std.proofs.Math.Dec.{eqb}
use Rattle.std.proofs.Math.ListN.{get_or, length-append, get_or-append}
use Rattle.std.proofs.lemmas.List.{set_at}
use Rattle.std.proofs.Math.Seq.{get_or_at}
use borrow.Author.Tests.{eq-eqb, ne_eqb}
use Rattle.scan.specs.Laws.{first-seek}
use Rattle.paths.specs.Walk.{node, route, number, hops, Arrives}

module _ (next : ℕ → ℕ → ℕ) (s t : ℕ) where
  pub node-start : node next s t 0 ≡ s
  unfolding node
  node-start = refl

  -- the code's k + 1
  pub node-more : (k : ℕ) → next (node next s t k) t ≡ node next s t (k + 1)
  unfolding node
  node-more k = simp add-one

  pub hops_is : (limit k : ℕ) → k < limit → Arrives next s t k → hops limit next s t ≡ k
  unfolding hops
  hops_is limit k l a =
      ap number (first-seek (λ j. eqb (node next s t j) t) 0 limit k (record {
        from = omega arith;
        within = omega arith;
        holds = eq-eqb (node next s t k) t a.there;
        before = λ j z g. ne_eqb (node next s t j) t (a.not-before j g);
      }))

  pub route-length : (k : ℕ) → length (route next s t k) ≡ k + 1
  unfolding route
  route-length zero = refl
  route-length (suc k) = simp length-append (omega (arith, route-length k))

  -- the source alone, at the front of a list
  pub route-start : (d : List ℕ) → 0 < length d → set d 0 s ≡ route next s t 0 ++ drop (0 + 1) d
  unfolding route
  route-start [] h = absurd (omega arith)
  route-start (x ∷ d) h = refl

  -- one relay more, at place k + 1 of a list that holds k hops
  pub route-more : (k : ℕ) (d : List ℕ) → k + 1 < length d
      → set (route next s t k ++ drop (k + 1) d) (k + 1) (next (node next s t k) t) ≡ route next s t (k + 1) ++ drop (k + 1 + 1) d
  unfolding route node
  route-more k d h =
      rw (drop-cons d (k + 1) 0) (rw (set_at (route next s t k) _ _ _ (k + 1) (route-length k)) (simp (add-one, append_assoc)))

  -- the route's places are its nodes
  pub route-at : (k j : ℕ) → j ≤ k → get_or (route next s t k) j 0 ≡ node next s t j
  unfolding route node
  route-at zero zero h = refl
  route-at zero (suc j) h = absurd (omega arith)
  route-at (suc k) j h = go (native.Mathlib.Decide.ℕ_discrete j (suc k)) (λ l. route-at k j l)
    where
      go : Dec (j ≡ suc k) → (j ≤ k → get_or (route next s t k) j 0 ≡ node next s t j) → get_or (route next s t k ++ (node next s t (suc k) ∷ [])) j 0 ≡ node next s t j
      go (yes e) rest = get_or_at (route next s t k) (node next s t (suc k)) [] 0 j (omega (arith, route-length k)) ∙ ap (node next s t) (sym e)
      go (no ne) rest = get_or-append (route next s t k) (node next s t (suc k) ∷ []) 0 j (omega (arith, route-length k)) ∙ rest (omega arith)
