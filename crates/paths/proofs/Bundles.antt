-- Main theorems: there is no finding by a bundle's rules exactly when it is a bundle (`clean_bundle`, `bundle_clean`): to keep them is to be one
-- (`keeps_bundle`, `bundle_keeps`). Assumes nothing.
use Rattle.std.specs.Prelude.{ℕ, zero, suc, ◌≤◌, ◌<◌, ◌≡◌, refl, Bool, true, false, ◌⊎◌, ◌≢◌, List, eqb, length, get_or, replicate}
use Rattle.std.proofs.Common.{sym, ap, ◌∙◌, subst, inl, inr, ⊎_elim, arith, eq-eqb, ne_eqb, eqb-true}
use native.Mathlib.Decide.{ℕ_discrete}
use Rattle.std.proofs.lemmas.List.{length-replicate}
use Rattle.scan.specs.Scan.{pick}
use Rattle.scan.specs.Laws.{true-false, true-or, not-true}
use Rattle.paths.specs.Mesh.{Mesh}
use Rattle.paths.specs.Rules.{Rules, span}
use Rattle.paths.specs.Fan.{PathBy, relay, hops}
use Rattle.paths.specs.Finding.{clean}
use Rattle.paths.specs.Keeps.{Keeps}
use Rattle.paths.specs.Bundles.{bundle_rules, ends_at, bundle_finding, Bundle}
use Rattle.paths.proofs.Keeps.{clean_keeps, keeps_clean}

-- ---- the rules' tests

excepted-not : (h p : ℕ) → pick (eqb p 0) true (eqb p h) ≡ false → (p ≢ 0) × (p ≢ h)
excepted-not h p e = (
  (λ z. true-false (ap (λ (b : Bool). pick b true (eqb p h)) (eq-eqb p 0 z)) e),
  (λ z. true-false (go (eqb p 0) z) e),
)
  where
    go : (b : Bool) → p ≡ h → pick b true (eqb p h) ≡ true
    go true z = refl
    go false z = eq-eqb p h z

excepted_either : (h p : ℕ) → pick (eqb p 0) true (eqb p h) ≡ true → (p ≡ 0) ⊎ (p ≡ h)
excepted_either h p e = go (ℕ_discrete p 0)
  where
    go : Dec (p ≡ 0) → (p ≡ 0) ⊎ (p ≡ h)
    go (yes z) = inl z
    go (no z) = inr (eqb-true p h (sym (ap (λ (b : Bool). pick b true (eqb p h)) (ne_eqb p 0 z)) ∙ e))

twin-ones : (h p g : ℕ) → pick (eqb p 1) (pick (eqb h 1) (eqb g 1) false) false ≡ true → (h ≡ 1) × (g ≡ 1)
twin-ones h p g e = go (true-or (eqb p 1)) (true-or (eqb h 1))
  where
    go : (eqb p 1 ≡ true) ⊎ (eqb p 1 ≡ false) → (eqb h 1 ≡ true) ⊎ (eqb h 1 ≡ false) → (h ≡ 1) × (g ≡ 1)
    go (inl a) (inl b) = (eqb-true h 1 b, eqb-true g 1 (sym (ap (λ (x : Bool). pick x (eqb g 1) false) b) ∙ (sym (ap (λ (x : Bool). pick x (pick (eqb h 1) (eqb g 1) false) false) a) ∙ e)))
    go (inl a) (inr b) = absurd (true-false e (ap (λ (x : Bool). pick x (pick (eqb h 1) (eqb g 1) false) false) a ∙ ap (λ (x : Bool). pick x (eqb g 1) false) b))
    go (inr a) b = absurd (true-false e (ap (λ (x : Bool). pick x (pick (eqb h 1) (eqb g 1) false) false) a))

ends-at : (m : Mesh) (t i : ℕ) → i < m.links → get_or (ends_at m t) i 0 ≡ t
ends-at m t i h = go m.links i h
  where
    go : (n i : ℕ) → i < n → get_or (replicate n t) i 0 ≡ t
    go zero i h = absurd (omega arith)
    go (suc n) zero h = refl
    go (suc n) (suc i) h = go n i (omega arith)

-- ---- no finding exactly when it is a bundle

module _ (m : Mesh) (s t : ℕ) (places counts : List ℕ) where
  abbrev rules : Rules
  rules = bundle_rules m

  abbrev spot : ℕ → ℕ → ℕ
  spot i p = relay (span (bundle_rules m)) places i p

  many : (i : ℕ) → i < m.links → i < length (ends_at m t)
  many i h = omega (arith, length-replicate m.links t)

  module _ (k : Keeps (bundle_rules m) s (ends_at m t) places counts) where
    way : (i : ℕ) → i < m.links → PathBy (bundle_rules m) s t places counts i
    way i h = subst (λ (e : ℕ). PathBy (bundle_rules m) s e places counts i) (ends-at m t i h) (k.path i (many i h))

    same_place : (i p q : ℕ) → i < m.links → p ≤ hops counts i → q ≤ hops counts i → spot i p ≡ spot i q → p ≡ q
    same_place i p q l h g e = go (ℕ_discrete p q)
      where
        go : Dec (p ≡ q) → p ≡ q
        go (yes d) = d
        go (no ne) = absurd (either (native.Mathlib.Decide.dec_lt p q))
          where
            either : Dec (p < q) → ⊥
            either (yes u) = k.once i p q (many i l) u g e
            either (no u) = k.once i q p (many i l) (omega arith) h (sym e)

    ends_only : (i j p q : ℕ) → i < j → i < m.links → j < m.links → p ≤ hops counts i → q ≤ hops counts j → spot i p ≡ spot j q
        → ((p ≡ 0) × (q ≡ 0)) ⊎ ((p ≡ hops counts i) × (q ≡ hops counts j))
    ends_only i j p q u l n h g e = go (true-or (rules.excepted (hops counts j) q))
      where
        go : (rules.excepted (hops counts j) q ≡ true) ⊎ (rules.excepted (hops counts j) q ≡ false) → ((p ≡ 0) × (q ≡ 0)) ⊎ ((p ≡ hops counts i) × (q ≡ hops counts j))
        go (inr x) = absurd (k.apart i j p q u (many j n) h g x e)
        go (inl x) = ⊎_elim
            (λ z. inl (same_place i p 0 l h (omega arith) (e ∙ ap (spot j) z ∙ (way j n).starts ∙ sym (way i l).starts), z))
            (λ z. inr (same_place i p (hops counts i) l h (omega arith) (e ∙ ap (spot j) z ∙ (way j n).ends ∙ sym (way i l).ends), z))
            (excepted_either (hops counts j) q x)

    pub keeps_bundle : Bundle m s t places counts
    keeps_bundle = record {
      path = way;
      apart = λ i j p q l n h g e. go i j p q l n h g e (ℕ_discrete i j);
      single = λ i j l n a b. one i j l n a b (ℕ_discrete i j);
    }
      where
        go : (i j p q : ℕ) → i < m.links → j < m.links → p ≤ hops counts i → q ≤ hops counts j → spot i p ≡ spot j q
            → Dec (i ≡ j) → ((i ≡ j) × (p ≡ q)) ⊎ (((p ≡ 0) × (q ≡ 0)) ⊎ ((p ≡ hops counts i) × (q ≡ hops counts j)))
        go i j p q l n h g e (yes d) = inl (d, same_place i p q l h (rw d g) (e ∙ ap (λ (z : ℕ). spot z q) (sym d)))
        go i j p q l n h g e (no ne) = inr (either (native.Mathlib.Decide.dec_lt i j))
          where
            either : Dec (i < j) → ((p ≡ 0) × (q ≡ 0)) ⊎ ((p ≡ hops counts i) × (q ≡ hops counts j))
            either (yes u) = ends_only i j p q u l n h g e
            either (no u) = ⊎_elim (λ z. inl (z.1, z.0)) (λ z. inr (z.1, z.0)) (ends_only j i q p (omega arith) n l g h (sym e))

        twins : (i j : ℕ) → i < j → j < m.links → hops counts i ≡ 1 → hops counts j ≡ 1 → ⊥
        twins i j u n a b =
            let x : rules.excepted (hops counts j) 1 ≡ true = ap (eqb 1) b in
            let w : rules.twin (hops counts j) 1 (hops counts i) ≡ true = ap (λ (z : ℕ). pick (eqb z 1) (eqb (hops counts i) 1) false) b ∙ ap (λ (z : ℕ). eqb z 1) a in
            true-false w (k.single i j 1 u (many j n) (omega arith) x)

        one : (i j : ℕ) → i < m.links → j < m.links → hops counts i ≡ 1 → hops counts j ≡ 1 → Dec (i ≡ j) → i ≡ j
        one i j l n a b (yes d) = d
        one i j l n a b (no ne) = absurd (either (native.Mathlib.Decide.dec_lt i j))
          where
            either : Dec (i < j) → ⊥
            either (yes u) = twins i j u n a b
            either (no u) = twins j i (omega arith) l b a

  pub bundle_keeps : Bundle m s t places counts → Keeps (bundle_rules m) s (ends_at m t) places counts
  bundle_keeps b = record {
    path = λ i h. let l = few i h in subst (λ (e : ℕ). PathBy (bundle_rules m) s e places counts i) (sym (ends-at m t i l)) (b.path i l);
    once = λ i p q h u g e. let l = few i h in
        ⊎_elim (λ z. omega (arith, z.1)) (λ w. ⊎_elim (λ z. omega (arith, z.1)) (λ z. omega (arith, z.0)) w) (b.apart i i p q l l (omega arith) g e);
    apart = λ i j p q u h g r x e. let l = few j h in let n = excepted-not (hops counts j) q x in
        ⊎_elim (λ z. omega (arith, z.0)) (λ w. ⊎_elim (λ z. n.0 z.1) (λ z. n.1 z.1) w) (b.apart i j p q (omega arith) l g r e);
    single = λ i j q u h g x. let l = few j h in
        not-true (λ w. let o = twin-ones (hops counts j) q (hops counts i) w in omega (arith, b.single i j (omega arith) l o.1 o.0));
  }
    where
      few : (i : ℕ) → i < length (ends_at m t) → i < m.links
      few i h = omega (arith, length-replicate m.links t)

  pub clean_bundle : bundle_finding m s t places counts ≡ clean → Bundle m s t places counts
  clean_bundle e = keeps_bundle (clean_keeps (bundle_rules m) s (ends_at m t) places counts e)

  pub bundle_clean : Bundle m s t places counts → bundle_finding m s t places counts ≡ clean
  bundle_clean b = keeps_clean (bundle_rules m) s (ends_at m t) places counts (bundle_keeps b)
