-- The next hop on a relay's number, by its parts: one bit of it changes, a slot's or, where the slot is the crossing, the block's bit of the slot (`change`).
-- That this gives the next hop is `change-next` in proofs/Turns.antt. Assumes nothing.
use Rattle.std.specs.Prelude.{ℕ, ◌+◌, ◌^◌, ◌<◌, ◌≡◌, ◌≢◌, eqb}
use Rattle.std.proofs.Math.Path.{sym, ap}
use Rattle.std.proofs.Common.{◌∙◌}
use Rattle.std.proofs.Math.Decide.{ℕ_discrete}
use Rattle.std.specs.Int.Bits.{bit_xor, xor_self}
use Rattle.std.proofs.lemmas.Nat.{xor_lt}
use Rattle.std.specs.Int.Count.{count_trailing_zeros}
use Rattle.bits.specs.Bit.{Lowest}
use Rattle.bits.specs.Laws.{trailing_lowest, xor-zero-eq}
use Rattle.bits.specs.Parts.{lowest_alike}
use Rattle.scan.specs.Scan.{pick}
use Rattle.two_parts.specs.Two.{slots}
use Rattle.two.specs.Next.{crossing, heading}
use Rattle.two.specs.Steps.{pick_same, pick_other, heading-same, heading-other}

-- the slot to walk to, where the blocks differ in the bits x and the target's slot is q
unfoldable pub aim : (m x q : ℕ) → ℕ
aim m x q = pick (eqb x 0) q (crossing m x)

-- the bit that changes where slot p is where to walk to: the block's bit p, and none where the blocks agree
unfoldable pub across : (m x p : ℕ) → ℕ
across m x p = pick (eqb x 0) 0 (2 ^ (m + p))

-- the bit that changes on the way from slot p to slot h, and none where they are the same
unfoldable pub along : (m p h : ℕ) → ℕ
along m p h = pick (eqb p h) 0 (2 ^ count_trailing_zeros m (bit_xor p h))

-- the bit that changes
unfoldable pub change : (m x p h : ℕ) → ℕ
change m x p h = pick (eqb p h) (across m x p) (along m p h)

-- ---- each by its cases

pub aim_same : (m x q : ℕ) → x ≡ 0 → aim m x q ≡ q
unfolding aim
aim_same m x q e = pick_same x 0 q (crossing m x) e

pub aim-other : (m x q : ℕ) → x ≢ 0 → aim m x q ≡ crossing m x
unfolding aim
aim-other m x q ne = pick_other x 0 q (crossing m x) ne

pub across-same : (m x p : ℕ) → x ≡ 0 → across m x p ≡ 0
unfolding across
across-same m x p e = pick_same x 0 0 (2 ^ (m + p)) e

pub across-other : (m x p : ℕ) → x ≢ 0 → across m x p ≡ 2 ^ (m + p)
unfolding across
across-other m x p ne = pick_other x 0 0 (2 ^ (m + p)) ne

pub along-same : (m p h : ℕ) → p ≡ h → along m p h ≡ 0
unfolding along
along-same m p h e = pick_same p h 0 (2 ^ count_trailing_zeros m (bit_xor p h)) e

pub along-other : (m p h : ℕ) → p ≢ h → along m p h ≡ 2 ^ count_trailing_zeros m (bit_xor p h)
unfolding along
along-other m p h ne = pick_other p h 0 (2 ^ count_trailing_zeros m (bit_xor p h)) ne

-- as a word of 64 bits has it
pub along_lowest : (m p h i : ℕ) → p < slots m → h < slots m → p ≢ h → Lowest 64 (bit_xor p h) i → along m p h ≡ 2 ^ i
along_lowest m p h i hp hh ne l =
    along-other m p h ne
    ∙ ap (λ (j : ℕ). 2 ^ j)
    (lowest_alike m 64 (bit_xor p h) (count_trailing_zeros m (bit_xor p h)) i (trailing_lowest m (bit_xor p h) (λ z. ne (xor-zero-eq p h z)) (xor_lt m p h hp hh)) l)

pub change-there : (m x p h : ℕ) → p ≡ h → change m x p h ≡ across m x p
unfolding change
change-there m x p h e = pick_same p h (across m x p) (along m p h) e

pub change_off : (m x p h : ℕ) → p ≢ h → change m x p h ≡ along m p h
unfolding change
change_off m x p h ne = pick_other p h (across m x p) (along m p h) ne

-- ---- the next hop

pub aim-heading : (m b c q : ℕ) → aim m (bit_xor b c) q ≡ heading m b c q
aim-heading m b c q = go (ℕ_discrete b c)
  where
    go : Dec (b ≡ c) → aim m (bit_xor b c) q ≡ heading m b c q
    go (yes e) = aim_same m (bit_xor b c) q (ap (λ (x : ℕ). bit_xor x c) e ∙ xor_self c) ∙ sym (heading-same m b c q e)
    go (no ne) = aim-other m (bit_xor b c) q (λ z. ne (xor-zero-eq b c z)) ∙ sym (heading-other m b c q ne)
