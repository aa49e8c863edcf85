-- One hop of the plain route, and the route. A hop changes one slot bit towards the heading, or crosses (`step`); so it is a link
-- (`next-linked`) and stays in the mesh (`next-below`). Each hop brings the rank down (`next-less`), so every walk arrives, after at most
-- 2 ^ (m + 1) + 2 * m - 1 hops (`plain_routed`, `hops_bound`). Of `crossing` only what Crossing.antt says is used. Assumes nothing.
use Rattle.std.specs.Prelude.{ℕ, ◌+◌, ◌-◌, ◌*◌, ◌^◌, ◌≤◌, ◌<◌, ◌≡◌, true, ◌⊎◌, ◌≢◌}
use Rattle.std.proofs.Math.Path.{refl, ap₂}
use Rattle.std.proofs.Common.{sym, ap, ◌∙◌, subst, arith}
use Rattle.std.proofs.Math.Logic.{inl, inr}
use Rattle.std.proofs.Math.Decide.{ℕ_discrete}
use Rattle.std.specs.Int.Bits.{bit_xor, xor_self}
use Rattle.std.proofs.lemmas.Nat.{xor_lt, ones-le}
use Rattle.std.proofs.Math.Pow.{pow_pos}
use Rattle.std.specs.Int.Count.{ones, count_trailing_zeros}
use Rattle.bits.specs.Bit.{bit, flip}
use Rattle.bits.specs.Laws.{trailing_lowest, xor-zero-eq, flip-lt, flip-xor, ones_clear}
use Rattle.paths.specs.Walk.{node, Arrives}
use Rattle.paths.specs.Routed.{Routed}
use Rattle.paths.specs.Ranked.{Ranked, ranked_most, ranked_routed}
use Rattle.paths.specs.Ranked as ranks
use Rattle.two_parts.specs.Two.{slots, blocks, relays, block_of, slot_of, relay, linked, two}
use Rattle.two.specs.Next.{place, crossing, toward, heading, crossed, next_block, next_slot, next, hops}
use Rattle.two.specs.Next as def
use Rattle.two.proofs.Crossing.{place-below, place_later, crossing-below, crossing-bit, crossing-flip-lt, crossing-near}
use Rattle.two_parts.specs.Parts.{block-relay, slot-relay, relay_parts, relay-below, block-below, slot-below, same_parts}
use Rattle.two_parts.specs.Links.{Link, link-linked, link_within}
use Rattle.two.specs.Steps.{heading-same, heading-other, crossed-there, crossed_over, crossed-not, toward-there, toward-moves, rest, rank, rest-none, rest_some, rest_bound, pow-next, rank-slot, most-longest}

-- ---- one hop, by blocks and slots

module _ (m b p c q : ℕ) (hb : b < blocks m) (hp : p < slots m) (hc : c < blocks m) (hq : q < slots m) where
  abbrev h : ℕ
  h = heading m b c q

  xor-some : b ≢ c → bit_xor b c ≢ 0
  xor-some ne e = ne (xor-zero-eq b c e)

  pub heading-below : heading m b c q < slots m
  heading-below = go (ℕ_discrete b c)
    where
      go : Dec (b ≡ c) → h < slots m
      go (yes e) = rw (heading-same m b c q e) hq
      go (no ne) = rw (heading-other m b c q ne) (crossing-below m (bit_xor b c) (xor-some ne) (xor_lt (2 ^ m) b c hb hc))

  -- a hop: none, where it is the target; along a slot bit that is not the heading's; or across, where the slot is the crossing
  abbrev pub Step : Type 0
  Step =
      ((b ≡ c) × (p ≡ q) × (next_block m b p c q ≡ b) × (next_slot m b p c q ≡ p))
      ⊎ (((next_block m b p c q ≡ b) × ((d : ℕ) × (d < m) × (bit d (bit_xor p (heading m b c q)) ≡ 1) × (next_slot m b p c q ≡ flip p d)))
      ⊎ ((b ≢ c) × (p ≡ crossing m (bit_xor b c)) × (next_block m b p c q ≡ flip b p) × (next_slot m b p c q ≡ p)))

  pub step : Step
  unfolding next_block next_slot
  step = go (ℕ_discrete p h) (ℕ_discrete b c)
    where
      go : Dec (p ≡ h) → Dec (b ≡ c) → Step
      go (yes e) (yes z) = inl (z, e ∙ heading-same m b c q z, crossed-there b p c h z, toward-there m p h e)
      go (yes e) (no ne) = inr (inr (ne, e ∙ heading-other m b c q ne, crossed_over b p c h ne e, toward-there m p h e))
      go (no ne) d =
          let low = trailing_lowest m (bit_xor p h) (λ z. ne (xor-zero-eq p h z)) (xor_lt m p h hp heading-below) in
          inr (inl (crossed-not b p c h ne, (count_trailing_zeros m (bit_xor p h), low.within, low.set, toward-moves m p h ne)))

  pub step-link : ((b ≡ c) × (p ≡ q) → ⊥) → Link m b p (next_block m b p c q) (next_slot m b p c q)
  step-link far = go step
    where
      go : Step → Link m b p (next_block m b p c q) (next_slot m b p c q)
      go (inl (x, y, z, w)) = absurd (far (x, y))
      go (inr (inl (x, (d, l, o, z)))) = inl (sym x, (d, l, z))
      go (inr (inr (ne, o, x, y))) = inr (sym y, x)

  pub step_within : (next_block m b p c q < blocks m) × (next_slot m b p c q < slots m)
  step_within = go step
    where
      go : Step → (next_block m b p c q < blocks m) × (next_slot m b p c q < slots m)
      go (inl (x, y, z, w)) = (subst (λ (v : ℕ). v < blocks m) (sym z) hb, subst (λ (v : ℕ). v < slots m) (sym w) hp)
      go (inr (inl (x, (d, l, o, z)))) = link_within m b p (next_block m b p c q) (next_slot m b p c q) (inl (sym x, (d, l, z))) hb hp
      go (inr (inr (ne, o, x, y))) = link_within m b p (next_block m b p c q) (next_slot m b p c q) (inr (sym y, x)) hb hp

module _ (m b p c q : ℕ) (hb : b < blocks m) (hp : p < slots m) (hc : c < blocks m) (hq : q < slots m) where
  slot-far : ones (bit_xor p (heading m b c q)) ≤ m
  slot-far = ones-le m (bit_xor p (heading m b c q)) (xor_lt m p (heading m b c q) hp (heading-below m b p c q hb hp hc hq))

  pub rank_bound : rank m b p c q ≤ 2 ^ (m + 1) + 2 * m - 1
  unfolding rank
  rank_bound = omega (arith, slot-far, rest_bound m (bit_xor b c) (xor_lt (2 ^ m) b c hb hc), pow-next m, pow_pos m)

-- from a crossing to the next
rest-less : (m x : ℕ) → x ≢ 0 → x < blocks m → flip x (crossing m x) ≢ 0
    → ones (bit_xor (crossing m x) (crossing m (flip x (crossing m x)))) + rest m (flip x (crossing m x)) < rest m x
rest-less m x ne h left =
    omega (
      arith,
      rest_some m x ne,
      rest_some m (flip x (crossing m x)) left,
      crossing-near m x ne h left,
      place_later m x ne h left,
      place-below m (flip x (crossing m x)) left (crossing-flip-lt m x ne h),
      ones_clear (crossing m x) x (crossing-bit m x ne h),
    )

-- across
rank-cross : (m b p c q : ℕ) → b < blocks m → p < slots m → c < blocks m → q < slots m → b ≢ c → p ≡ crossing m (bit_xor b c)
    → rank m (flip b p) p c q < rank m b p c q
unfolding rank
rank-cross m b p c q hb hp hc hq ne e = go (ℕ_discrete (flip b p) c)
  where
    some : bit_xor b c ≢ 0
    some z = ne (xor-zero-eq b c z)

    low : bit_xor b c < blocks m
    low = xor_lt (2 ^ m) b c hb hc

    after : bit_xor (flip b p) c ≡ flip (bit_xor b c) (crossing m (bit_xor b c))
    after = flip-xor b p c ∙ ap (flip (bit_xor b c)) e

    go : Dec (flip b p ≡ c) → ones (bit_xor p (heading m (flip b p) c q)) + rest m (bit_xor (flip b p) c) < ones (bit_xor p (heading m b c q)) + rest m (bit_xor b c)
    go (yes z) =
        omega (
          arith,
          slot-far m (flip b p) p c q (flip-lt (2 ^ m) b p hb hp) hp hc hq,
          rest-none m (bit_xor (flip b p) c) (ap (λ (v : ℕ). bit_xor v c) z ∙ xor_self c),
          rest_some m (bit_xor b c) some,
          ones_clear (crossing m (bit_xor b c)) (bit_xor b c) (crossing-bit m (bit_xor b c) some low),
        )
    go (no far) =
        let left : flip (bit_xor b c) (crossing m (bit_xor b c)) ≢ 0 = λ z. far (xor-zero-eq (flip b p) c (after ∙ z)) in
        let walk : ones (bit_xor p (heading m (flip b p) c q)) ≡ ones (bit_xor (crossing m (bit_xor b c)) (crossing m (flip (bit_xor b c) (crossing m (bit_xor b c))))) =
        ap₂ (λ (u v : ℕ). ones (bit_xor u v)) e (heading-other m (flip b p) c q far ∙ ap (crossing m) after) in
        omega (arith, walk, ap (rest m) after, rest-less m (bit_xor b c) some low left)

pub rank_less : (m b p c q : ℕ) → b < blocks m → p < slots m → c < blocks m → q < slots m → ((b ≡ c) × (p ≡ q) → ⊥)
    → rank m (next_block m b p c q) (next_slot m b p c q) c q < rank m b p c q
rank_less m b p c q hb hp hc hq far = go (step m b p c q hb hp hc hq)
  where
    go : Step m b p c q hb hp hc hq → rank m (next_block m b p c q) (next_slot m b p c q) c q < rank m b p c q
    go (inl (x, y, z, w)) = absurd (far (x, y))
    go (inr (inl (x, (d, l, o, z)))) = rw (x, z) (rank-slot m b p c q d o)
    go (inr (inr (ne, e, x, y))) = rw (x, y) (rank-cross m b p c q hb hp hc hq ne e)

-- ---- of relays by number

module _ (m t : ℕ) (ht : t < relays m) where
  abbrev c : ℕ
  c = block_of m t

  abbrev q : ℕ
  q = slot_of m t

  module _ (u : ℕ) (hu : u < relays m) where
    abbrev nb : ℕ
    nb = next_block m (block_of m u) (slot_of m u) c q

    abbrev np : ℕ
    np = next_slot m (block_of m u) (slot_of m u) c q

    within : (nb < blocks m) × (np < slots m)
    within = step_within m (block_of m u) (slot_of m u) c q (block-below m u hu) (slot-below m u) (block-below m t ht) (slot-below m t)

    pub next-block : block_of m (next m u t) ≡ next_block m (block_of m u) (slot_of m u) (block_of m t) (slot_of m t)
    unfolding next def.step
    next-block = block-relay m nb np within.1

    pub next-slot : slot_of m (next m u t) ≡ next_slot m (block_of m u) (slot_of m u) (block_of m t) (slot_of m t)
    unfolding next def.step
    next-slot = slot-relay m nb np within.1

    pub next-below : next m u t < relays m
    unfolding next def.step
    next-below = relay-below m nb np within.0 within.1

    apart : u ≢ t → (block_of m u ≡ c) × (slot_of m u ≡ q) → ⊥
    apart ne (x, y) = ne (same_parts m u t x y)

    pub next-linked : u ≢ t → linked m u (next m u t) ≡ true
    next-linked ne =
        link-linked m u (next m u t)
        (rw (next-block, next-slot) (step-link m (block_of m u) (slot_of m u) c q (block-below m u hu) (slot-below m u) (block-below m t ht) (slot-below m t) (apart ne)))

    pub next-less : u ≢ t → rank m (block_of m (next m u t)) (slot_of m (next m u t)) c q < rank m (block_of m u) (slot_of m u) c q
    next-less ne =
        rw (next-block, next-slot)
        (rank_less m (block_of m u) (slot_of m u) c q (block-below m u hu) (slot-below m u) (block-below m t ht) (slot-below m t) (apart ne))

  -- the target is its own next hop
  pub next-there : next m t t ≡ t
  unfolding next def.step next_block next_slot
  next-there =
      let e = heading-same m c c q refl in
      ap₂ (relay m) (crossed-there c q c (heading m c c q) refl) (toward-there m q (heading m c c q) (sym e)) ∙ relay_parts m t

  -- how far it is to t, at most
  abbrev far : ℕ → ℕ
  far u = rank m (block_of m u) (slot_of m u) c q

  far_bound : (u : ℕ) → u < relays m → far u ≤ 2 ^ (m + 1) + 2 * m - 1
  far_bound u h = rank_bound m (block_of m u) (slot_of m u) c q (block-below m u h) (slot-below m u) (block-below m t ht) (slot-below m t)

  pub ranked : Ranked (two m) (next m) far t
  ranked = record {
    short = λ u h. omega (arith, far_bound u h, most-longest m);
    below = λ u h. next-below u h;
    linked = λ u h ne. next-linked u h ne;
    falls = λ u h ne. next-less u h ne;
  }

  pub node-below : (s k : ℕ) → s < relays m → node (next m) s t k < relays m
  node-below s k h = ranks.node-below (two m) (next m) far t ranked s h k

  pub plain_routed : (s : ℕ) → s < relays m → Routed (two m) (next m) s t (hops m s t)
  unfolding hops
  plain_routed s h = ranked_routed (two m) (next m) far t ranked s h

  pub hops_arrive : (s : ℕ) → s < relays m → Arrives (next m) s t (hops m s t)
  hops_arrive s h = (plain_routed s h).arrives

  pub hops_bound : (s : ℕ) → s < relays m → hops m s t ≤ 2 ^ (m + 1) + 2 * m - 1
  unfolding hops
  hops_bound s h = omega (arith, ranked_most (two m) (next m) far t ranked s h, far_bound s h)
