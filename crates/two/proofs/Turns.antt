-- The next hop on a relay's number: one bit of it changes, a slot's or, where the slot is the crossing, the block's bit of the slot (`change-next`).
-- Assumes nothing.
use Rattle.std.specs.Prelude.{ℕ, ◌+◌, ◌^◌, ◌<◌, ◌≡◌, ◌≢◌}
use Rattle.std.proofs.Math.Path.{sym, ap}
use Rattle.std.proofs.Common.{ap₂, ◌∙◌}
use Rattle.std.proofs.Math.Decide.{ℕ_discrete}
use Rattle.std.specs.Int.Bits.{bit_xor, xor_self, xor_zero_r}
use Rattle.std.proofs.lemmas.Nat.{xor_lt}
use Rattle.std.specs.Int.Count.{count_trailing_zeros}
use Rattle.bits.specs.Bit.{flip}
use Rattle.bits.specs.Laws.{trailing_lowest, xor-zero-eq}
use Rattle.two_parts.specs.Two.{relays, block_of, slot_of, relay}
use Rattle.two_parts.proofs.NearLaws.{flip-slot, flip-block}
use Rattle.two_parts.specs.Parts.{relay_parts, block-below, slot-below}
use Rattle.two.specs.Next.{heading, crossed, toward, step, next, next_block, next_slot}
use Rattle.two.specs.Steps.{crossed-there, crossed_over, crossed-not, toward-there, toward-moves}
use Rattle.two.specs.Turns.{change, across-same, across-other, along-other, change-there, change_off}
use Rattle.two.proofs.Rank.{heading-below}

module _ (m u t : ℕ) (hu : u < relays m) (ht : t < relays m) where
  abbrev b : ℕ
  b = block_of m u

  abbrev p : ℕ
  p = slot_of m u

  abbrev c : ℕ
  c = block_of m t

  abbrev q : ℕ
  q = slot_of m t

  abbrev h : ℕ
  h = heading m b c q

  across-flip : bit_xor u (2 ^ (m + slot_of m u)) ≡ relay m (flip b p) p
  unfolding flip
  across-flip = sym (flip-block m u p)

  low : p ≢ h → count_trailing_zeros m (bit_xor p h) < m
  low ne =
      (trailing_lowest m (bit_xor p h) (λ z. ne (xor-zero-eq p h z))
      (xor_lt m p h (slot-below m u) (heading-below m b p c q (block-below m u hu) (slot-below m u) (block-below m t ht) (slot-below m t)))).within

  along-flip : (d : ℕ) → d < m → bit_xor u (2 ^ d) ≡ relay m b (flip p d)
  unfolding flip
  along-flip d l = sym (flip-slot m u d l)

  pub change-next : bit_xor u (change m (bit_xor (block_of m u) (block_of m t)) (slot_of m u) (heading m (block_of m u) (block_of m t) (slot_of m t))) ≡ next m u t
  unfolding next step next_block next_slot
  change-next = go (ℕ_discrete p h) (ℕ_discrete b c)
    where
      go : Dec (p ≡ h) → Dec (b ≡ c) → bit_xor u (change m (bit_xor b c) p h) ≡ relay m (crossed b p c h) (toward m p h)
      go (yes e) (yes z) =
          ap (bit_xor u) (change-there m (bit_xor b c) p h e ∙ across-same m (bit_xor b c) p (ap (λ (x : ℕ). bit_xor x c) z ∙ xor_self c)) ∙ xor_zero_r u
          ∙ sym (ap₂ (relay m) (crossed-there b p c h z) (toward-there m p h e) ∙ relay_parts m u)
      go (yes e) (no ne) =
          ap (bit_xor u) (change-there m (bit_xor b c) p h e ∙ across-other m (bit_xor b c) p (λ z. ne (xor-zero-eq b c z))) ∙ across-flip
          ∙ sym (ap₂ (relay m) (crossed_over b p c h ne e) (toward-there m p h e))
      go (no ne) d =
          ap (bit_xor u) (change_off m (bit_xor b c) p h ne ∙ along-other m p h ne) ∙ along-flip (count_trailing_zeros m (bit_xor p h)) (low ne)
          ∙ sym (ap₂ (relay m) (crossed-not b p c h ne) (toward-moves m p h ne))
