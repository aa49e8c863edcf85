-- A relay's number and its parts: they make each other (`block-relay`, `slot-relay`, `relay_parts`), and both are in range or
-- neither is (`relay-below`, `block-below`, `slot-below`). What is known of an order from 1 to 5. Assumes nothing.
use Rattle.std.specs.Prelude.{ℕ, ◌^◌, ◌≤◌, ◌<◌, ◌≡◌, refl, Bool, true, false, ◌&&◌, ◌⊎◌, leb}
use Rattle.std.proofs.Common.{sym, ap₂, ◌∙◌, subst, inl, inr, mod-lt, div-add-mod', div-lt_iff_lt-mul, mul-le-mul, le_trans, lt_of_lt_of_le, arith, pow_pos, pow-add, pow_mono, leb-true, le-leb, lt-ltb, le-ltb}
use Rattle.std.proofs.Math.Path.{ap}
use Rattle.std.proofs.Math.Arith.{digits_lt, digits_div, digits_mod}
use Rattle.std.proofs.Math.Dec.{ltb}
use Rattle.std.proofs.lemmas.Bool.{lt-leb}
use Rattle.scan.specs.Scan.{pick}
use Rattle.scan.specs.Laws.{true-or, true-false}
use Rattle.two_parts.specs.Two.{known, slots, blocks, relays, longest, block_of, slot_of, relay, named}

-- ---- number and parts

module _ (m : ℕ) where
  pub block-relay : (b p : ℕ) → p < slots m → block_of m (relay m b p) ≡ b
  block-relay b p h = digits_div b h

  pub slot-relay : (b p : ℕ) → p < slots m → slot_of m (relay m b p) ≡ p
  slot-relay b p h = digits_mod b h

  pub relay_parts : (r : ℕ) → relay m (block_of m r) (slot_of m r) ≡ r
  relay_parts r = div-add-mod' r (2 ^ m)

  pub relay-below : (b p : ℕ) → b < blocks m → p < slots m → relay m b p < relays m
  relay-below b p h g = subst (λ (y : ℕ). relay m b p < y) (sym (pow-add 2 (2 ^ m) m)) (digits_lt h g)

  pub block-below : (r : ℕ) → r < relays m → block_of m r < blocks m
  block-below r h = (div-lt_iff_lt-mul (pow_pos m)).1 (subst (λ (y : ℕ). r < y) (pow-add 2 (2 ^ m) m) h)

  pub slot-below : (r : ℕ) → slot_of m r < slots m
  slot-below r = mod-lt r (pow_pos m)

  -- relays with the same parts are the same
  pub same_parts : (u v : ℕ) → block_of m u ≡ block_of m v → slot_of m u ≡ slot_of m v → u ≡ v
  same_parts u v e f = sym (relay_parts u) ∙ ap₂ (relay m) e f ∙ relay_parts v

-- ---- the orders

pub known_bounds : (m : ℕ) → known m ≡ true → (1 ≤ m) × (m ≤ 5)
known_bounds m e = go (true-or (leb 1 m))
  where
    go : (leb 1 m ≡ true) ⊎ (leb 1 m ≡ false) → (1 ≤ m) × (m ≤ 5)
    go (inl t) = (leb-true 1 m t, leb-true m 5 (sym (ap (λ (x : Bool). pick x (leb m 5) false) t) ∙ e))
    go (inr f) = absurd (true-false (sym (ap (λ (x : Bool). pick x (leb m 5) false) f) ∙ e) refl)

pub bounds_known : (m : ℕ) → 1 ≤ m → m ≤ 5 → known m ≡ true
bounds_known m h g = ap (λ (x : Bool). pick x (leb m 5) false) (le-leb 1 m h) ∙ le-leb m 5 g

pub known_high : (m : ℕ) → 1 ≤ m → known m ≡ leb m 5
known_high m h = ap (λ (x : Bool). pick x (leb m 5) false) (le-leb 1 m h)

-- what the flag that `known` returns says
pub few : (m : ℕ) {r : Bool} → r ≡ known m → r ≡ true → m ≤ 5
few m e t = (known_bounds m (sym e ∙ t)).1

pub low-unknown : (m : ℕ) → m < 1 → known m ≡ false
low-unknown m h = ap (λ (x : Bool). pick x (leb m 5) false) (lt-leb 1 m h)

pub high_unknown : (m : ℕ) → 5 < m → known m ≡ false
high_unknown m h = ap (λ (x : Bool). pick x (leb m 5) false) (le-leb 1 m (omega arith)) ∙ lt-leb m 5 h

module _ (m : ℕ) (h : m ≤ 5) where
  pub slots-few : slots m ≤ 32
  slots-few = pow_mono h

  pub relays-few : relays m ≤ 2 ^ 37
  relays-few = pow_mono {j = 37} (omega (arith, slots-few))

  pub longest-few : longest m ≤ 206
  longest-few = omega (arith, slots-few, mul-le-mul h slots-few)

  -- a relay's number fits a word
  pub relay-few : (b p : ℕ) → b < blocks m → p < slots m → relay m b p < 2 ^ 64
  relay-few b p hb hp = lt_of_lt_of_le (relay-below m b p hb hp) (le_trans relays-few (pow_mono {i = 37} {j = 64} (omega arith)))

-- ---- a number for each block and slot

module _ (m b p : ℕ) where
  pub named-known : known m ≡ true → named m b p ≡ pick (ltb b (blocks m) && ltb p (slots m)) (relay m b p) (relays m)
  unfolding named
  named-known e = ap (λ (x : Bool). pick x (pick (ltb b (blocks m) && ltb p (slots m)) (relay m b p) (relays m)) 0) e

  pub named-unknown : known m ≡ false → named m b p ≡ 0
  unfolding named
  named-unknown e = ap (λ (x : Bool). pick x (pick (ltb b (blocks m) && ltb p (slots m)) (relay m b p) (relays m)) 0) e

  pub named-relay : known m ≡ true → b < blocks m → p < slots m → named m b p ≡ relay m b p
  named-relay e h g =
      named-known e
      ∙ ap₂ (λ (x y : Bool). pick (x && y) (relay m b p) (relays m)) (lt-ltb b (blocks m) h) (lt-ltb p (slots m) g)

  pub named-block-out : known m ≡ true → blocks m ≤ b → named m b p ≡ relays m
  named-block-out e h = named-known e ∙ ap (λ (x : Bool). pick (x && ltb p (slots m)) (relay m b p) (relays m)) (le-ltb b (blocks m) h)

  pub named-slot-out : known m ≡ true → b < blocks m → slots m ≤ p → named m b p ≡ relays m
  named-slot-out e h g =
      named-known e
      ∙ ap₂ (λ (x y : Bool). pick (x && y) (relay m b p) (relays m)) (lt-ltb b (blocks m) h) (le-ltb p (slots m) g)

-- of an order that there is no path is longer than 206 hops
pub short-ways : (m : ℕ) → known m ≡ true → longest m < 207
short-ways m k = omega (arith, longest-few m (known_bounds m k).1)
