-- Laws of the plain route. Assumes nothing.
--
-- `route_plain`: of relays s and t of a cube of n dimensions, the route from s to t has as many hops as bits differ, so n at most; it starts
-- at s and ends at t, each of its steps is a link, and each of its relays is one of the cube.
use Prim.Native.Nat.{ℕ, zero, suc, ◌+◌, ◌^◌, ◌≤◌, ◌<◌}
use Rattle.std.specs.Prelude.{◌≡◌, true, ◌≢◌, length, get_or}
use Rattle.std.proofs.Common.{sym, ap, ◌∙◌, le_refl, lt_of_lt_of_le, arith, pow_mono, eq-eqb, ne_eqb}
use Rattle.std.specs.Int.Bits.{bit_xor, xor_self}
use Rattle.std.proofs.lemmas.Nat.{xor_lt}
use Rattle.std.specs.Int.Count.{ones, ones-le, count_trailing_zeros}
use Rattle.bits.specs.Bit.{bit, flip, Lowest}
use Rattle.bits.specs.Laws.{trailing_lowest, lowest_one, flip-lt, flip-xor, ones_clear, ones_none, ones-zero, xor-zero-eq}
use Rattle.paths.specs.Walk.{node, Arrives}
use Rattle.paths.specs.Walk as walk
use Rattle.paths.specs.Walks.{node-start, hops_is, route-length, route-at}
use Rattle.cube.specs.Cube.{linked}
use Rattle.cube.specs.Links.{linked-flip}
use Rattle.cube.specs.Route.{next, hops, route}

-- ---- one hop

pub next-there : (u t : ℕ) → u ≡ t → u ≡ next u t
unfolding next
next-there u t e = simp (eq-eqb u t e)

next_flips : (u t : ℕ) → u ≢ t → flip u (count_trailing_zeros 64 (bit_xor u t)) ≡ next u t
unfolding next
next_flips u t ne = simp (ne_eqb u t ne)

-- in whatever width the lowest differing bit is looked for, the next hop has it changed
pub next_is : (n u t i : ℕ) → n ≤ 64 → u < 2 ^ n → t < 2 ^ n → u ≢ t → Lowest n (bit_xor u t) i → flip u i ≡ next u t
next_is n u t i l hu hv ne low =
    ap (flip u) (lowest_one 64 (bit_xor u t) i _ (record { within = omega (arith, low.within); set = low.set; below = low.below })
    (trailing_lowest 64 (bit_xor u t) (λ e. ne (xor-zero-eq u t e)) (lt_of_lt_of_le (xor_lt n u t hu hv) (pow_mono l))))
    ∙ next_flips u t ne

-- a hop changes one bit, which differs
pub record Hop (n u t : ℕ) : Type 0 where
  pub at : ℕ
  pub within : at < n
  pub differs : bit at (bit_xor u t) ≡ 1
  pub flips : flip u at ≡ next u t

pub next_hop : (n u t : ℕ) → n ≤ 64 → u < 2 ^ n → t < 2 ^ n → u ≢ t → Hop n u t
next_hop n u t l hu hv ne =
    let low = trailing_lowest n (bit_xor u t) (λ e. ne (xor-zero-eq u t e)) (xor_lt n u t hu hv) in
    record { at = count_trailing_zeros n (bit_xor u t); within = low.within; differs = low.set; flips = next_is n u t _ l hu hv ne low }

-- it is a link, it stays in the cube, and one bit less differs
pub hop_linked : {n u t : ℕ} → Hop n u t → linked u (next u t) ≡ true
hop_linked {n} {u} {t} h = ap (linked u) (sym h.flips) ∙ linked-flip u h.at

pub hop_below : {n u t : ℕ} → u < 2 ^ n → Hop n u t → next u t < 2 ^ n
hop_below {n} {u} {t} hu h = rw (sym h.flips) (flip-lt n u h.at hu h.within)

pub hop_nearer : {n u t : ℕ} → Hop n u t → ones (bit_xor (next u t) t) + 1 ≡ ones (bit_xor u t)
hop_nearer {n} {u} {t} h =
    ap (λ (x : ℕ). ones (bit_xor x t) + 1) (sym h.flips) ∙ ap (λ (x : ℕ). ones x + 1) (flip-xor u h.at t) ∙ ones_clear h.at (bit_xor u t) h.differs

apart_far : (u t : ℕ) → 0 < ones (bit_xor u t) → u ≢ t
apart_far u t h e = omega (arith, ap (λ (x : ℕ). ones (bit_xor x t)) e, ap ones (xor_self t), ones-zero)

-- ---- the route of relays of a cube of n dimensions

module _ (n s t : ℕ) (l : n ≤ 64) (hs : s < 2 ^ n) (ht : t < 2 ^ n) where
  -- after k hops, of at most as many as bits differ, k bits fewer differ
  node_nearer : (k : ℕ) → k ≤ ones (bit_xor s t) → (node next s t k < 2 ^ n) × (ones (bit_xor (node next s t k) t) + k ≡ ones (bit_xor s t))
  unfolding node
  node_nearer zero h = (hs, omega arith)
  node_nearer (suc k) h =
      let r = node_nearer k (omega arith) in
      let hop = next_hop n (node next s t k) t l r.0 ht (apart_far (node next s t k) t (omega (arith, r.1))) in
      (hop_below r.0 hop, omega (arith, r.1, hop_nearer hop))

  ones_arrives : Arrives next s t (ones (bit_xor s t))
  ones_arrives = record {
    there = xor-zero-eq _ t (ones_none _ (omega (arith, (node_nearer (ones (bit_xor s t)) (le_refl (ones (bit_xor s t)))).1)));
    not-before = λ k h. apart_far (node next s t k) t (omega (arith, (node_nearer k (omega arith)).1));
  }

  pub hops-ones : hops s t ≡ ones (bit_xor s t)
  unfolding hops
  hops-ones =
      let most = ones-le n (bit_xor s t) (xor_lt n s t hs ht) in
      hops_is next s t 65 (ones (bit_xor s t)) (omega (arith, most, l)) ones_arrives

  pub hops-most : hops s t ≤ n
  hops-most = rw hops-ones (ones-le n (bit_xor s t) (xor_lt n s t hs ht))

  pub route_arrives : Arrives next s t (hops s t)
  route_arrives = rw hops-ones ones_arrives

  pub route-below : (k : ℕ) → k ≤ hops s t → node next s t k < 2 ^ n
  route-below k h = (node_nearer k (rw hops-ones at h)).0

  pub route-linked : (k : ℕ) → k < hops s t → linked (node next s t k) (node next s t (suc k)) ≡ true
  unfolding node
  route-linked k h =
      let r = node_nearer k (omega (arith, hops-ones)) in
      hop_linked (next_hop n (node next s t k) t l r.0 ht (apart_far (node next s t k) t (omega (arith, r.1, hops-ones))))

-- ---- the list that is written

-- what the route from s to t is, in a cube of n dimensions
pub record Plain (n s t : ℕ) : Type 0 where
  pub differing : hops s t ≡ ones (bit_xor s t)
  pub most : hops s t ≤ n
  pub long : length (route s t) ≡ hops s t + 1
  pub starts : get_or (route s t) 0 0 ≡ s
  pub ends : get_or (route s t) (hops s t) 0 ≡ t
  pub below : (j : ℕ) → j ≤ hops s t → get_or (route s t) j 0 < 2 ^ n
  pub steps : (j : ℕ) → j < hops s t → linked (get_or (route s t) j 0) (get_or (route s t) (suc j) 0) ≡ true

pub route_plain : (n s t : ℕ) → n ≤ 64 → s < 2 ^ n → t < 2 ^ n → Plain n s t
unfolding route
route_plain n s t l hs ht =
    let place : (j : ℕ) → j ≤ hops s t → get_or (walk.route next s t (hops s t)) j 0 ≡ node next s t j = route-at next s t (hops s t) in
    record {
      differing = hops-ones n s t l hs ht;
      most = hops-most n s t l hs ht;
      long = route-length next s t (hops s t);
      starts = place 0 (omega arith) ∙ node-start next s t;
      ends = place (hops s t) (le_refl (hops s t)) ∙ (route_arrives n s t l hs ht).there;
      below = λ j h. rw (place j h) (route-below n s t l hs ht j h);
      steps = λ j h. rw (place j (omega arith)) (rw (place (suc j) (omega arith)) (route-linked n s t l hs ht j h));
    }
