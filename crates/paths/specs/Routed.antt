-- A plain route visits no relay twice: a walk that came to a relay again would go on as before and never arrive. So every walk that arrives is without a repeat
-- (`node_once`, `route-fresh`), and so is every walk whose rank falls with each hop (`falls_once`). One within the longest path (`Routed`) is a way and a fan of
-- one target (proofs/Routed). Assumes nothing.
use Prim.Native.Nat.{ℕ, zero, suc, ◌+◌, ◌-◌, ◌≤◌, ◌<◌}
use Rattle.std.specs.Prelude.{◌≡◌, true, ◌≢◌, List, [], ◌∷◌, length}
use Rattle.std.proofs.Math.Path.{refl, ap}
use Rattle.std.proofs.Common.{sym, ◌∙◌, inl, inr, add-zero, add-suc, le_refl}
use native.Mathlib.Omega.{arith}
use Rattle.std.proofs.Math.Decide.{ℕ_discrete, dec_lt}
use Rattle.std.proofs.Math.ListN.{get_or}
use Rattle.paths.specs.Mesh.{Mesh}
use Rattle.paths.specs.Lists.{In, Fresh}
use Rattle.paths.specs.Walk.{node, route, Arrives}
use Rattle.paths.specs.Walks.{route-length, route-at}
use Rattle.paths.specs.Ends.{walk_ends}

-- ---- a list without repeats, by its places

in_place : (l : List ℕ) (x : ℕ) → In x l → (p : ℕ) × (p < length l) × (get_or l p 0 ≡ x)
in_place [] x h = absurd h
in_place (y ∷ l) x (inl e) = (0, omega arith, sym e)
in_place (y ∷ l) x (inr h) = let (p, g, e) = in_place l x h in (suc p, omega arith, e)

pub places-fresh : (l : List ℕ) → ((p q : ℕ) → p < length l → q < length l → get_or l p 0 ≡ get_or l q 0 → p ≡ q) → Fresh l
places-fresh [] h = tt
places-fresh (x ∷ l) h = (
  (λ g. let (p, b, e) = in_place l x g in let z : ◌≡◌ {A = ℕ} (suc p) 0 = h (suc p) 0 (omega arith) (omega arith) e in omega arith),
  places-fresh l (λ p q a b e. let z : suc p ≡ suc q = h (suc p) (suc q) (omega arith) (omega arith) e in omega arith),
)

-- ---- a walk that arrives

module _ (next : ℕ → ℕ → ℕ) (s t : ℕ) where
  -- where a walk goes on from depends on the relay alone
  node-on : (i k : ℕ) → node next s t (i + k) ≡ node next (node next s t i) t k
  unfolding node
  node-on i zero = rw (add-zero i) refl
  node-on i (suc k) = rw (add-suc i k) (ap (λ (u : ℕ). next u t) (node-on i k))

  module _ (n : ℕ) (a : Arrives next s t n) where
    no_return : (i j : ℕ) → i < j → j ≤ n → node next s t i ≢ node next s t j
    no_return i j l h e =
        let whole : j + (n - j) ≡ n = omega arith in
        a.not-before (i + (n - j)) (omega arith)
        (node-on i (n - j) ∙ ap (λ (u : ℕ). node next u t (n - j)) e ∙ sym (node-on j (n - j)) ∙ ap (node next s t) whole ∙ a.there)

    pub node_once : (i j : ℕ) → i ≤ n → j ≤ n → node next s t i ≡ node next s t j → i ≡ j
    node_once i j h g e = go (ℕ_discrete i j)
      where
        go : Dec (i ≡ j) → i ≡ j
        go (yes z) = z
        go (no ne) = absurd (either (dec_lt i j))
          where
            either : Dec (i < j) → ⊥
            either (yes l) = no_return i j l g e
            either (no l) = no_return j i (omega arith) h (sym e)

    pub route_once : (i j : ℕ) → i ≤ n → j ≤ n → get_or (route next s t n) i 0 ≡ get_or (route next s t n) j 0 → i ≡ j
    route_once i j h g e = node_once i j h g (sym (route-at next s t n i h) ∙ e ∙ route-at next s t n j g)

    pub route-fresh : Fresh (route next s t n)
    route-fresh = places-fresh (route next s t n) (λ p q h g e. route_once p q (omega (arith, route-length next s t n)) (omega (arith, route-length next s t n)) e)

-- over any next hop with a rank that falls: the route arrives, after no more hops than its rank, and visits no relay twice
pub falls_once : (next : ℕ → ℕ → ℕ) (t : ℕ) (P : ℕ → Type 0) (rank : ℕ → ℕ) → ((u : ℕ) → P u → P (next u t))
    → ((u : ℕ) → P u → u ≢ t → rank (next u t) < rank u) → (s : ℕ) → P s → (n : ℕ) × (n ≤ rank s) × Arrives next s t n × Fresh (route next s t n)
falls_once next t P rank keeps falls s h =
    let (n, l, a) = walk_ends next t P rank keeps falls (rank s) s h (le_refl (rank s)) in
    (n, l, a, route-fresh next s t n a)

-- ---- a plain route in a mesh

-- h hops of `next` lead from s to t, along links and within the longest path
pub record Routed (m : Mesh) (next : ℕ → ℕ → ℕ) (s t h : ℕ) : Type 0 where
  pub arrives : Arrives next s t h
  pub short : h ≤ m.longest
  pub below : (k : ℕ) → k ≤ h → node next s t k < m.relays
  pub linked : (k : ℕ) → k < h → m.linked (node next s t k) (node next s t (suc k)) ≡ true
