-- Main theorems: there is no finding exactly when it is a fan (`clean_fan`, `fan_clean`): to keep a fan's rules is to be a fan (`keeps_fan`,
-- `fan_keeps`). Assumes nothing.
use Rattle.std.specs.Prelude.{ℕ, ◌≤◌, ◌<◌, ◌≡◌, refl, ◌⊎◌, List, length}
use Rattle.std.proofs.Common.{sym, ap, ◌∙◌, inl, inr, ⊎_elim, arith, eq-eqb, ne_eqb}
use native.Mathlib.Decide.{ℕ_discrete}
use Rattle.scan.specs.Laws.{true-false}
use Rattle.paths.specs.Mesh.{Mesh, width}
use Rattle.paths.specs.Rules.{fan_rules}
use Rattle.paths.specs.Fan.{Fan, relay, hops}
use Rattle.paths.specs.Finding.{clean, finding}
use Rattle.paths.specs.Keeps.{Keeps}
use Rattle.paths.proofs.Keeps.{clean_keeps, keeps_clean}

module _ (m : Mesh) (s : ℕ) (targets places counts : List ℕ) where
  abbrev at_place : (i p : ℕ) → ℕ
  at_place i p = relay (width m) places i p

  module _ (k : Keeps (fan_rules m) s targets places counts) where
    same_place : (i p q : ℕ) → i < length targets → p ≤ hops counts i → q ≤ hops counts i → at_place i p ≡ at_place i q → p ≡ q
    same_place i p q l h g e = go (ℕ_discrete p q)
      where
        go : Dec (p ≡ q) → p ≡ q
        go (yes d) = d
        go (no ne) = absurd (either (native.Mathlib.Decide.dec_lt p q))
          where
            either : Dec (p < q) → ⊥
            either (yes u) = k.once i p q l u g e
            either (no u) = k.once i q p l (omega arith) h (sym e)

    starts_only : (i j p q : ℕ) → i < j → i < length targets → j < length targets → p ≤ hops counts i → q ≤ hops counts j
        → at_place i p ≡ at_place j q → (p ≡ 0) × (q ≡ 0)
    starts_only i j p q u l n h g e = go (ℕ_discrete q 0)
      where
        go : Dec (q ≡ 0) → (p ≡ 0) × (q ≡ 0)
        go (no ne) = absurd (k.apart i j p q u n h g (ne_eqb q 0 ne) e)
        go (yes z) = (same_place i p 0 l h (omega arith) (e ∙ ap (at_place j) z ∙ (k.path j n).starts ∙ sym (k.path i l).starts), z)

    pub keeps_fan : Fan m s targets places counts
    keeps_fan = record { path = k.path; apart = λ i j p q l n h g e. go i j p q l n h g e (ℕ_discrete i j) }
      where
        go : (i j p q : ℕ) → i < length targets → j < length targets → p ≤ hops counts i → q ≤ hops counts j → at_place i p ≡ at_place j q
            → Dec (i ≡ j) → ((i ≡ j) × (p ≡ q)) ⊎ ((p ≡ 0) × (q ≡ 0))
        go i j p q l n h g e (yes d) = inl (d, same_place i p q l h (rw d g) (e ∙ ap (λ (z : ℕ). at_place z q) (sym d)))
        go i j p q l n h g e (no ne) = inr (either (native.Mathlib.Decide.dec_lt i j))
          where
            either : Dec (i < j) → (p ≡ 0) × (q ≡ 0)
            either (yes u) = starts_only i j p q u l n h g e
            either (no u) = let r = starts_only j i q p (omega arith) n l g h (sym e) in (r.1, r.0)

  pub fan_keeps : Fan m s targets places counts → Keeps (fan_rules m) s targets places counts
  fan_keeps f = record {
    path = f.path;
    once = λ i p q l u h e. ⊎_elim (λ z. omega (arith, z.1)) (λ z. omega (arith, z.1)) (f.apart i i p q l l (omega arith) h e);
    apart = λ i j p q u l h g x e. ⊎_elim (λ z. omega (arith, z.0)) (λ z. true-false (eq-eqb q 0 z.1) x) (f.apart i j p q (omega arith) l h g e);
    single = λ i j q u l g x. refl;
  }

  pub clean_fan : finding m s targets places counts ≡ clean → Fan m s targets places counts
  clean_fan e = keeps_fan (clean_keeps (fan_rules m) s targets places counts e)

  pub fan_clean : Fan m s targets places counts → finding m s targets places counts ≡ clean
  fan_clean f = keeps_clean (fan_rules m) s targets places counts (fan_keeps f)
