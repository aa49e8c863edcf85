-- Main theorems: of a fan at least as many paths stay whole as there are paths less failures, stopped relays and cut links together (`fan_survives`), the source not
-- stopped: each relay but the source, and each link, is on one path at most. So of a bundle (`bundle_survives`), neither end stopped. A stopped source leaves none
-- whole (`none_survives`), nor does a stopped end of a bundle (`start-stopped`, `end-stopped`). Assumes nothing.
use Rattle.std.specs.Prelude.{ℕ, zero, suc, ◌+◌, ◌≤◌, ◌<◌, ◌≡◌, refl, Bool, true, false, ◌⊎◌, ◌≢◌, List, length, get_or}
use Rattle.std.proofs.Common.{sym, ◌∙◌, subst, arith}
use Rattle.std.proofs.Math.Path.{ap}
use Rattle.std.proofs.Math.Bool.{not}
use Rattle.std.proofs.Math.Logic.{inl, inr, ⊎_elim}
use Rattle.std.proofs.Math.Dec.{eqb}
use borrow.Author.Tests.{eqb-true, eq-eqb}
use Rattle.scan.specs.Scan.{any, count, has}
use Rattle.scan.specs.Laws.{true-false, either_true, first-true, any-true, true-any, count_never, count_either, count-not}
use Rattle.scan.specs.Hits.{struck, by_struck, few-struck}
use Rattle.paths.specs.Mesh.{Mesh, width}
use Rattle.paths.specs.Rules.{Rules, span, fan_rules}
use Rattle.paths.specs.Fan.{PathBy, Fan, relay, hops}
use Rattle.paths.specs.Finding.{on}
use Rattle.paths.specs.Places.{relay-among, on-at}
use Rattle.paths.specs.Bundles.{Bundle, bundle_rules}
use Rattle.paths.specs.Whole.{Failed, failures, cut, stops, severs, broken, whole, relays_of, link, numbered, links_of}
use Rattle.paths.specs.Cuts.{Two, linked-link, stop_counts, counts-stopped}
use Rattle.paths.proofs.Cuts.{numbered-two, cut-counts}

module _ (w : ℕ) (places counts : List ℕ) where
  -- whether path i has a link with this number
  crosses : (m : Mesh) (x i : ℕ) → Bool
  crosses m x i = any (λ p. eqb (numbered m (relay w places i p) (relay w places i (p + 1))) x) 0 (hops counts i)

  crosses_at : (m : Mesh) (x i : ℕ) → crosses m x i ≡ true → (p : ℕ) × (p < hops counts i) × (numbered m (relay w places i p) (relay w places i (p + 1)) ≡ x)
  unfolding crosses
  crosses_at m x i e =
      let r = any-true (λ p. eqb (numbered m (relay w places i p) (relay w places i (p + 1))) x) 0 (hops counts i) e in
      (r.0, omega (arith, r.2), eqb-true (numbered m (relay w places i r.0) (relay w places i (r.0 + 1))) x r.3)

  at_crosses : (m : Mesh) (x i p : ℕ) → p < hops counts i → numbered m (relay w places i p) (relay w places i (p + 1)) ≡ x → crosses m x i ≡ true
  unfolding crosses
  at_crosses m x i p h e =
      true-any (λ p. eqb (numbered m (relay w places i p) (relay w places i (p + 1))) x) 0 (hops counts i) p (omega arith) (omega arith)
      (eq-eqb (numbered m (relay w places i p) (relay w places i (p + 1))) x e)

  -- a broken path has a stopped relay or a cut link
  broken-at : (f : Failed) (i : ℕ) → broken w places counts f i ≡ true
      → ((p : ℕ) × (p ≤ hops counts i) × (has f.stopped (relay w places i p) ≡ true))
      ⊎ ((p : ℕ) × (p < hops counts i) × (cut f.cuts (relay w places i p) (relay w places i (p + 1)) ≡ true))
  unfolding broken stops severs
  broken-at f i e =
      ⊎_elim
      (λ z. let r = any-true (stops w places f i) 0 (hops counts i + 1) z in inl (r.0, omega (arith, r.2), r.3))
      (λ z. let r = any-true (severs w places f i) 0 (hops counts i) z in inr (r.0, omega (arith, r.2), r.3))
      (either_true (any (stops w places f i) 0 (hops counts i + 1)) (any (severs w places f i) 0 (hops counts i)) e)

  at-broken : (f : Failed) (i p : ℕ) → p ≤ hops counts i → has f.stopped (relay w places i p) ≡ true → broken w places counts f i ≡ true
  unfolding broken stops
  at-broken f i p h e =
      first-true (any (stops w places f i) 0 (hops counts i + 1)) (any (severs w places f i) 0 (hops counts i))
      (true-any (stops w places f i) 0 (hops counts i + 1) p (omega arith) (omega arith) e)

-- k paths by any rules from s, each to an end of its own
module _ (r : Rules) (s k : ℕ) (ends : ℕ → ℕ) (places counts : List ℕ) (path : (i : ℕ) → i < k → PathBy r s (ends i) places counts i) (within : s < r.mesh.relays) where
  abbrev at : ℕ → ℕ → ℕ
  at = relay (span r) places

  abbrev cross : ℕ → ℕ → Bool
  cross = crosses (span r) places counts r.mesh

  -- the relays of a path are relays of the mesh, and its links links
  pub relay_within : (i p : ℕ) → i < k → p ≤ hops counts i → at i p < r.mesh.relays
  relay_within i zero l h = rw (path i l).starts within
  relay_within i (suc p) l h = let next : suc p ≡ p + 1 = omega arith in rw next ((path i l).linked p (omega arith)).0

  pub link_within : (i p : ℕ) → i < k → p < hops counts i → link r.mesh (at i p) (at i (p + 1)) ≡ true
  link_within i p l h =
      linked-link r.mesh (at i p) (at i (p + 1)) (relay_within i p l (omega arith)) ((path i l).linked p h).0 ((path i l).linked p h).1

  -- two paths with the same link have its two relays, in one order or the other
  same-link : (i j p q : ℕ) → i < k → j < k → p < hops counts i → q < hops counts j
      → numbered r.mesh (at i p) (at i (p + 1)) ≡ numbered r.mesh (at j q) (at j (q + 1)) → Two (at i p) (at i (p + 1)) (at j q) (at j (q + 1))
  same-link i j p q l h u v e =
      numbered-two r.mesh (at i p) (at i (p + 1)) (at j q) (at j (q + 1)) (relay_within i p l (omega arith)) ((path i l).linked p u).0 (relay_within j q h (omega arith))
      ((path j h).linked q v).0 e

  -- what breaks a path strikes it: a relay that stands on it, or a link of it
  broken-struck : (f : Failed) (i : ℕ) → i < k → broken (span r) places counts f i ≡ true
      → (struck (on (span r) places counts) (relays_of r.mesh f.stopped) i ≡ true) ⊎ (struck cross (links_of r.mesh f.cuts) i ≡ true)
  unfolding on
  broken-struck f i l e =
      ⊎_elim
      (λ z. let (p, h, stands) = z in
      inl (by_struck (on (span r) places counts) (relays_of r.mesh f.stopped) i (at i p) (stop_counts r.mesh f.stopped (at i p) stands (relay_within i p l h))
      (relay-among (span r) places i (hops counts i + 1) p _ (omega arith) refl)))
      (λ z. let (p, h, severed) = z in
      inr (by_struck cross (links_of r.mesh f.cuts) i (numbered r.mesh (at i p) (at i (p + 1)))
      (cut-counts r.mesh f.cuts (at i p) (at i (p + 1)) severed (link_within i p l h)) (at_crosses (span r) places counts r.mesh _ i p h refl)))
      (broken-at (span r) places counts f i e)

  -- where each stopped relay stands on one path at most, and no two paths have the same link, at least as many stay whole as there are paths less failures
  module _ (f : Failed)
      (one : (x i j : ℕ) → has f.stopped x ≡ true → i < k → j < k → on (span r) places counts x i ≡ true → on (span r) places counts x j ≡ true → i ≡ j)
      (own : (i j p q : ℕ) → i < k → j < k → p < hops counts i → q < hops counts j → Two (at i p) (at i (p + 1)) (at j q) (at j (q + 1)) → i ≡ j) where
    one_link : (x i j : ℕ) → i < k → j < k → cross x i ≡ true → cross x j ≡ true → i ≡ j
    one_link x i j l h a b =
        let (p, u, d) = crosses_at (span r) places counts r.mesh x i a in
        let (q, v, e) = crosses_at (span r) places counts r.mesh x j b in
        own i j p q l h u v (same-link i j p q l h u v (d ∙ sym e))

    few-broken : count (broken (span r) places counts f) k ≤ failures r.mesh f
    few-broken =
        let stops = relays_of r.mesh f.stopped in
        let links = links_of r.mesh f.cuts in
        omega (
          arith,
          count_either (broken (span r) places counts f) (struck (on (span r) places counts) stops) (struck cross links) k (broken-struck f),
          few-struck (on (span r) places counts) k stops (λ x i j a. one x i j (counts-stopped r.mesh f.stopped x a)),
          few-struck cross k links (λ x i j a. one_link x i j),
        )

    pub survives : k ≤ count (whole (span r) places counts f) k + failures r.mesh f
    unfolding whole
    survives =
        omega (arith, few-broken, count-not (broken (span r) places counts f) (whole (span r) places counts f) k (λ i l e. ap not e) (λ i l e. ap not e))

-- a stopped relay that stands on each of k paths, at places p, leaves none whole
pub none-whole : (w k : ℕ) (places counts : List ℕ) (f : Failed) (p : ℕ → ℕ)
    → ((i : ℕ) → i < k → (p i ≤ hops counts i) × (has f.stopped (relay w places i (p i)) ≡ true)) → count (whole w places counts f) k ≡ 0
unfolding whole
none-whole w k places counts f p h =
    count_never (whole w places counts f) k (λ i l. ap not (at-broken w places counts f i (p i) (h i l).0 (h i l).1))

-- a number that is not in the list is none that is
not_listed : (l : List ℕ) (x s : ℕ) → has l x ≡ true → has l s ≡ false → x ≢ s
not_listed l x s a h e = true-false (subst (λ (y : ℕ). has l y ≡ true) e a) h

module _ (m : Mesh) (s : ℕ) (targets places counts : List ℕ) (fan : Fan m s targets places counts) where
  abbrev k : ℕ
  k = length targets

  -- a relay that is not the source stands on one path
  one-path : (x i j : ℕ) → x ≢ s → i < k → j < k → on (width m) places counts x i ≡ true → on (width m) places counts x j ≡ true → i ≡ j
  one-path x i j ne l h a b =
      let (p, u, d) = on-at (width m) places counts x i a in
      let (q, v, e) = on-at (width m) places counts x j b in
      ⊎_elim (λ r. r.0) (λ r. absurd (ne (sym d ∙ ap (relay (width m) places i) r.0 ∙ (fan.path i l).starts))) (fan.apart i j p q l h u v (d ∙ sym e))

  -- a link is on one path: its later relay is not the source
  own-link : (i j p q : ℕ) → i < k → j < k → p < hops counts i → q < hops counts j
      → Two (relay (width m) places i p) (relay (width m) places i (p + 1)) (relay (width m) places j q) (relay (width m) places j (q + 1)) → i ≡ j
  own-link i j p q l h u v two = ⊎_elim (λ z. meets (q + 1) (omega arith) z.1) (λ z. meets q (omega arith) z.1) two
    where
      meets : (b : ℕ) → b ≤ hops counts j → relay (width m) places i (p + 1) ≡ relay (width m) places j b → i ≡ j
      meets b g e = ⊎_elim (λ z. z.0) (λ z. absurd (omega (arith, z.0))) (fan.apart i j (p + 1) b l h (omega arith) g e)

  -- the survivors clause: f failures, the source not stopped, leave at least paths less f whole
  pub fan_survives : s < m.relays → (f : Failed) → has f.stopped s ≡ false → k ≤ count (whole (width m) places counts f) k + failures m f
  fan_survives within f h =
      survives (fan_rules m) s k (λ i. get_or targets i 0) places counts fan.path within f (λ x i j a. one-path x i j (not_listed f.stopped x s a h)) own-link

  -- a stopped source leaves none whole
  pub none_survives : (f : Failed) → has f.stopped s ≡ true → count (whole (width m) places counts f) k ≡ 0
  none_survives f h = none-whole (width m) k places counts f (λ i. 0) (λ i l. (omega arith, ap (has f.stopped) (fan.path i l).starts ∙ h))

-- ---- bundles

module _ (m : Mesh) (s t : ℕ) (places counts : List ℕ) (bundle : Bundle m s t places counts) where
  abbrev w : ℕ
  w = span (bundle_rules m)

  -- a relay that is neither end stands on one path
  one_way : (x i j : ℕ) → x ≢ s → x ≢ t → i < m.links → j < m.links → on w places counts x i ≡ true → on w places counts x j ≡ true → i ≡ j
  one_way x i j ns nt l h a b =
      let (p, u, d) = on-at w places counts x i a in
      let (q, v, e) = on-at w places counts x j b in
      ⊎_elim (λ r. r.0)
      (λ z. ⊎_elim (λ r. absurd (ns (sym d ∙ ap (relay w places i) r.0 ∙ (bundle.path i l).starts)))
      (λ r. absurd (nt (sym d ∙ ap (relay w places i) r.0 ∙ (bundle.path i l).ends))) z)
      (bundle.apart i j p q l h u v (d ∙ sym e))

  -- a link is on one path: one of its relays is no end, or it is the bare link
  own-way : (i j p q : ℕ) → i < m.links → j < m.links → p < hops counts i → q < hops counts j
      → Two (relay w places i p) (relay w places i (p + 1)) (relay w places j q) (relay w places j (q + 1)) → i ≡ j
  own-way i j p q l h u v two = ⊎_elim (λ z. straight z.0 z.1) (λ z. turned z.1) two
    where
      -- the bare link, on both
      bare : p ≡ 0 → q ≡ 0 → p + 1 ≡ hops counts i → q + 1 ≡ hops counts j → i ≡ j
      bare a b c d = bundle.single i j l h (omega arith) (omega arith)

      last : p + 1 ≡ hops counts i → q + 1 ≡ hops counts j → relay w places i p ≡ relay w places j q → i ≡ j
      last c d e =
          ⊎_elim (λ z. z.0) (λ y. ⊎_elim (λ z. bare z.0 z.1 c d) (λ z. absurd (omega (arith, z.0))) y)
          (bundle.apart i j p q l h (omega arith) (omega arith) e)

      straight : relay w places i p ≡ relay w places j q → relay w places i (p + 1) ≡ relay w places j (q + 1) → i ≡ j
      straight d e =
          ⊎_elim (λ z. z.0) (λ y. ⊎_elim (λ z. absurd (omega (arith, z.0))) (λ z. last z.0 z.1 d) y)
          (bundle.apart i j (p + 1) (q + 1) l h (omega arith) (omega arith) e)

      turned : relay w places i (p + 1) ≡ relay w places j q → i ≡ j
      turned e =
          ⊎_elim (λ z. z.0) (λ y. ⊎_elim (λ z. absurd (omega (arith, z.0))) (λ z. absurd (omega (arith, z.1))) y)
          (bundle.apart i j (p + 1) q l h (omega arith) (omega arith) e)

  -- the same of a bundle, neither end stopped
  pub bundle_survives : s < m.relays → (f : Failed) → has f.stopped s ≡ false → has f.stopped t ≡ false
      → m.links ≤ count (whole (span (bundle_rules m)) places counts f) m.links + failures m f
  bundle_survives within f h g =
      survives (bundle_rules m) s m.links (λ i. t) places counts bundle.path within f
      (λ x i j a. one_way x i j (not_listed f.stopped x s a h) (not_listed f.stopped x t a g)) own-way

  -- an end that is stopped leaves none whole
  pub start-stopped : (f : Failed) → has f.stopped s ≡ true → count (whole (span (bundle_rules m)) places counts f) m.links ≡ 0
  start-stopped f h = none-whole w m.links places counts f (λ i. 0) (λ i l. (omega arith, ap (has f.stopped) (bundle.path i l).starts ∙ h))

  pub end-stopped : (f : Failed) → has f.stopped t ≡ true → count (whole (span (bundle_rules m)) places counts f) m.links ≡ 0
  end-stopped f h = none-whole w m.links places counts f (hops counts) (λ i l. (omega arith, ap (has f.stopped) (bundle.path i l).ends ∙ h))
