-- What a bundle is, on the slices as they are lent (`Bundle`): as many paths from s to t as a relay has links. There is no finding by a bundle's rules exactly
-- when it is one (`clean_bundle`, `bundle_clean` in proofs/Bundles); lists that are a bundle are one where they are laid out (`laid_bundle`). Assumes nothing.
use Rattle.std.specs.Prelude.{ℕ, zero, suc, ◌+◌, ◌≤◌, ◌<◌, ◌≡◌, refl, true, false, ◌⊎◌, ◌≢◌, List, [], ◌∷◌, eqb, length, replicate}
use Rattle.std.proofs.Common.{sym, ap, ◌∙◌, subst, inl, inr, arith}
use native.Mathlib.Decide.{ℕ_discrete}
use Rattle.scan.specs.Scan.{pick}
use Rattle.paths.specs.Mesh.{Mesh, width}
use Rattle.paths.specs.Rules.{Rules, span}
use Rattle.paths.specs.Fan.{PathBy, relay, hops}
use Rattle.paths.specs.Finding.{Finding, finding_by}
use Rattle.paths.specs.Lists.{In, Chain, Laid, placed-path, placed_in, placed_one}
use Rattle.paths.specs.Bundle.{Bundled}

-- the mesh with paths of one hop more
abbrev pub longer : Mesh → Mesh
longer m = record { relays = m.relays; links = m.links; longest = m.longest + 1; linked = m.linked }

-- both ends are excepted, at their own places; and two paths are not both the bare link
abbrev pub bundle_rules : Mesh → Rules
bundle_rules m = record {
  mesh = m;
  limit = m.longest + 1;
  excepted = λ h p. pick (eqb p 0) true (eqb p h);
  twin = λ h p g. pick (eqb p 1) (pick (eqb h 1) (eqb g 1) false) false;
}

-- as many ends as links, each of them t
abbrev pub ends_at : Mesh → ℕ → List ℕ
ends_at m t = replicate m.links t

-- the first finding of what is to be a bundle
abbrev pub bundle_finding : (m : Mesh) (s t : ℕ) (places counts : List ℕ) → Finding
bundle_finding m s t = finding_by (bundle_rules m) s (ends_at m t)

-- each a path from s to t; a relay stands twice only where both places are starts, or both are ends; and one path at most is the bare link
pub record Bundle (m : Mesh) (s t : ℕ) (places counts : List ℕ) : Type 0 where
  pub path : (i : ℕ) → i < m.links → PathBy (bundle_rules m) s t places counts i
  pub apart : (i j p q : ℕ) → i < m.links → j < m.links → p ≤ hops counts i → q ≤ hops counts j
      → relay (span (bundle_rules m)) places i p ≡ relay (span (bundle_rules m)) places j q
      → ((i ≡ j) × (p ≡ q)) ⊎ (((p ≡ 0) × (q ≡ 0)) ⊎ ((p ≡ hops counts i) × (q ≡ hops counts j)))
  pub single : (i j : ℕ) → i < m.links → j < m.links → hops counts i ≡ 1 → hops counts j ≡ 1 → i ≡ j

-- ---- lists laid out

-- links are the same where paths may be longer
chain_longer : (m : Mesh) (u t : ℕ) (l : List ℕ) → Chain m u t l → Chain (longer m) u t l
chain_longer m u t [] c = c
chain_longer m u t (v ∷ l) c = (c.0, c.1, chain_longer m v t l c.2)

module _ (m : Mesh) (s t : ℕ) (places counts : List ℕ) (paths : ℕ → List ℕ) (f : Bundled m s t m.links paths)
    (a : Laid (width (longer m)) s m.links paths places counts) where
  pub laid_bundle : Bundle m s t places counts
  laid_bundle = record {
    path = way;
    apart = λ i j p q h g r b e. go i j p q h g r b e (ℕ_discrete i j);
    single = λ i j h g x y. f.single i j h g (bare i h x) (bare j g y);
  }
    where
      links : (i : ℕ) → i < m.links → Chain (longer m) s t (paths i)
      links i h = chain_longer m s t (paths i) (f.chain i h)

      way : (i : ℕ) → i < m.links → PathBy (bundle_rules m) s t places counts i
      way i h =
          let w = placed-path (longer m) s m.links (λ j. t) places counts paths links f.short f.fresh a i h in
          record { short = w.short; starts = w.starts; linked = w.linked; ends = w.ends; filled = w.filled }

      one : (i p q : ℕ) → i < m.links → p ≤ hops counts i → q ≤ hops counts i → relay (width (longer m)) places i p ≡ relay (width (longer m)) places i q → p ≡ q
      one = placed_one (longer m) s m.links (λ j. t) places counts paths links f.short f.fresh a

      on : (i p : ℕ) → i < m.links → suc p ≤ hops counts i → In (relay (width (longer m)) places i (suc p)) (paths i)
      on = placed_in (longer m) s m.links (λ j. t) places counts paths links f.short f.fresh a

      -- a path of one hop is the bare link
      bare : (i : ℕ) → i < m.links → hops counts i ≡ 1 → paths i ≡ t ∷ []
      bare i h e = by (paths i) (f.chain i h) (sym (a.count i h) ∙ e)
        where
          by : (l : List ℕ) → Chain m s t l → length l ≡ 1 → l ≡ t ∷ []
          by [] c z = absurd (omega arith)
          by (x ∷ []) c z = ap (λ (y : ℕ). y ∷ []) c.2
          by (x ∷ y ∷ l) c z = absurd (omega arith)

      two : (i j p q : ℕ) → i ≢ j → i < m.links → j < m.links → p ≤ hops counts i → q ≤ hops counts j
          → relay (width (longer m)) places i p ≡ relay (width (longer m)) places j q → ((p ≡ 0) × (q ≡ 0)) ⊎ ((p ≡ hops counts i) × (q ≡ hops counts j))
      two i j zero zero ne h g r b e = inl (refl, refl)
      two i j zero (suc q) ne h g r b e =
          absurd ((f.fresh j g).0 (subst (λ (y : ℕ). In y (paths j)) (sym e ∙ (way i h).starts) (on j q g b)))
      two i j (suc p) zero ne h g r b e =
          absurd ((f.fresh i h).0 (subst (λ (y : ℕ). In y (paths i)) (e ∙ (way j g).starts) (on i p h r)))
      two i j (suc p) (suc q) ne h g r b e =
          let end = f.apart i j h g ne (relay (width (longer m)) places i (suc p)) (on i p h r) (subst (λ (y : ℕ). In y (paths j)) (sym e) (on j q g b)) in
          inr (one i (suc p) (hops counts i) h r (omega arith) (end ∙ sym (way i h).ends), one j (suc q) (hops counts j) g b (omega arith) (sym e ∙ end ∙ sym (way j g).ends))

      go : (i j p q : ℕ) → i < m.links → j < m.links → p ≤ hops counts i → q ≤ hops counts j → relay (width (longer m)) places i p ≡ relay (width (longer m)) places j q
          → Dec (i ≡ j) → ((i ≡ j) × (p ≡ q)) ⊎ (((p ≡ 0) × (q ≡ 0)) ⊎ ((p ≡ hops counts i) × (q ≡ hops counts j)))
      go i j p q h g r b e (yes z) = inl (z, one i p q h r (subst (λ (y : ℕ). q ≤ hops counts y) (sym z) b) (e ∙ ap (λ (y : ℕ). relay (width (longer m)) places y q) (sym z)))
      go i j p q h g r b e (no ne) = inr (two i j p q ne h g r b e)
