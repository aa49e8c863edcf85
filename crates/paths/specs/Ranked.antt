-- A plain route over any mesh whose next hop is a link and has a rank that falls: it arrives after no more hops than the rank says (`ranked_most`), and where that is within the longest path
-- its hops are those of the definition (`ranked_routed`). Assumes nothing.
use Rattle.std.specs.Prelude.{ℕ, suc, ◌+◌, ◌≤◌, ◌<◌, ◌≡◌, true, ◌≢◌}
use Rattle.std.proofs.Common.{sym, ◌∙◌, subst, arith, le_refl}
use Rattle.paths.specs.Mesh.{Mesh, width}
use Rattle.paths.specs.Walk.{node, hops, Arrives}
use Rattle.paths.specs.Walks.{hops_is}
use Rattle.paths.specs.Ends.{walk_ends, node_keeps}
use Rattle.paths.specs.Routed.{Routed}

-- each hop towards t is a link to a relay of the mesh, and brings the rank down
pub record Ranked (m : Mesh) (next : ℕ → ℕ → ℕ) (rank : ℕ → ℕ) (t : ℕ) : Type 0 where
  pub short : (u : ℕ) → u < m.relays → rank u ≤ m.longest
  pub below : (u : ℕ) → u < m.relays → next u t < m.relays
  pub linked : (u : ℕ) → u < m.relays → u ≢ t → m.linked u (next u t) ≡ true
  pub falls : (u : ℕ) → u < m.relays → u ≢ t → rank (next u t) < rank u

module _ (m : Mesh) (next : ℕ → ℕ → ℕ) (rank : ℕ → ℕ) (t : ℕ) (r : Ranked m next rank t) (s : ℕ) (h : s < m.relays) where
  pub node-below : (k : ℕ) → node next s t k < m.relays
  node-below k = node_keeps next t (λ u. u < m.relays) (λ u l. r.below u l) s k h

  arrival : (n : ℕ) × (n ≤ rank s) × Arrives next s t n
  arrival = walk_ends next t (λ u. u < m.relays) rank (λ u l. r.below u l) (λ u l ne. r.falls u l ne) (rank s) s h (le_refl (rank s))

  -- the hops of the definition are those
  hops_are : hops (width m) next s t ≡ arrival.0
  hops_are = hops_is next s t (width m) arrival.0 (omega (arith, arrival.1, r.short s h)) arrival.2

  pub ranked_most : hops (width m) next s t ≤ rank s
  ranked_most = subst (λ (n : ℕ). n ≤ rank s) (sym hops_are) arrival.1

  pub ranked_arrives : Arrives next s t (hops (width m) next s t)
  ranked_arrives = subst (λ (n : ℕ). Arrives next s t n) (sym hops_are) arrival.2

  pub ranked_routed : Routed m next s t (hops (width m) next s t)
  unfolding node
  ranked_routed = record {
    arrives = ranked_arrives;
    short = omega (arith, ranked_most, r.short s h);
    below = λ k l. node-below k;
    linked = λ k l. r.linked (node next s t k) (node-below k) (ranked_arrives.not-before k l);
  }
