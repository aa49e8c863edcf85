-- Bits exchanged under a mask: each bit that the mask has with the one k places higher. Where no bit has to go two ways, bit i of what comes out is the
-- bit of x at `partner` (`swapped-bit`). Assumes nothing.
use Prim.Native.Nat.{ℕ, zero, suc, ◌+◌, ◌-◌, ◌*◌, ◌/◌, ◌%◌, ◌^◌, ◌≤◌, ◌<◌, min}
use Rattle.std.specs.Prelude.{◌≡◌, refl, ◌⊎◌}
use Rattle.std.proofs.Common.{sym, ◌∙◌, inl, inr, arith, shr-shr}
use Rattle.std.proofs.Math.Path.{ap, ap₂}
use Rattle.std.specs.Int.Bits.{bit_xor, bit_and, differ, shifted_half, shifted_even}
use Rattle.std.proofs.lemmas.Nat.{shl-shr}
use Rattle.bits.specs.Bit.{bit}
use Rattle.bits.specs.Laws.{bit-lt, bit-cases, bit-zero, bit-suc, bit-xor, bit-and, differ_lt, differ_none, lt-or-le}

-- the bits that change with those k places higher, at the lower place
unfoldable pub turning : (mask k x : ℕ) → ℕ
turning mask k x = bit_and (bit_xor x (x / 2 ^ k)) mask

unfoldable pub swapped : (mask k x : ℕ) → ℕ
swapped mask k x = bit_xor (bit_xor x (turning mask k x)) (turning mask k x * 2 ^ k)

-- where bit i comes from
unfoldable pub partner : (mask k i : ℕ) → ℕ
partner mask k i = i + bit i mask * k - bit i (mask * 2 ^ k) * k

-- ---- bits of shifted numbers

bit_down : (k i x : ℕ) → bit i (x / 2 ^ k) ≡ bit (k + i) x
unfolding bit
bit_down k i x = ap (λ (y : ℕ). y % 2) (shr-shr x k i)

bit_up : (k i x : ℕ) → bit (k + i) (x * 2 ^ k) ≡ bit i x
bit_up k i x = sym (bit_down k i (x * 2 ^ k)) ∙ ap (bit i) (shl-shr x k)

bit-none_under : (k i x : ℕ) → i < k → bit i (x * 2 ^ k) ≡ 0
bit-none_under zero i x h = absurd (omega arith)
bit-none_under (suc k) zero x h = bit-zero (x * 2 ^ suc k) ∙ shifted_even x k
bit-none_under (suc k) (suc i) x h = bit-suc i (x * 2 ^ suc k) ∙ ap (bit i) (shifted_half x k) ∙ bit-none_under k i x (omega arith)

-- ---- two digits

differ_back : (a b : ℕ) → a < 2 → b < 2 → differ a (differ a b) ≡ b
differ_back zero b h g = refl
differ_back (suc zero) zero h g = refl
differ_back (suc zero) (suc zero) h g = refl
differ_back (suc zero) (suc (suc b)) h g = absurd (omega arith)
differ_back (suc (suc a)) b h g = absurd (omega arith)

differ_comm : (a b : ℕ) → a < 2 → b < 2 → differ a b ≡ differ b a
differ_comm zero b h g = sym (differ_none b)
differ_comm (suc a) zero h g = refl
differ_comm (suc a) (suc b) h g = differ_comm a b (omega arith) (omega arith)

-- ---- what turns

module _ (mask k x i : ℕ) where
  turning-bit : bit i (turning mask k x) ≡ min (differ (bit i x) (bit (k + i) x)) (bit i mask)
  unfolding turning
  turning-bit =
      bit-and i (bit_xor x (x / 2 ^ k)) mask
      ∙ ap (λ (d : ℕ). min d (bit i mask)) (bit-xor i x (x / 2 ^ k) ∙ ap (differ (bit i x)) (bit_down k i x))

  turning-on : bit i mask ≡ 1 → bit i (turning mask k x) ≡ differ (bit i x) (bit (k + i) x)
  turning-on o = omega (arith, turning-bit, differ_lt (bit i x) (bit (k + i) x) (bit-lt i x) (bit-lt (k + i) x))

  turning_off : bit i mask ≡ 0 → bit i (turning mask k x) ≡ 0
  turning_off z = omega (arith, turning-bit)

  swapped-bits : bit i (swapped mask k x) ≡ differ (differ (bit i x) (bit i (turning mask k x))) (bit i (turning mask k x * 2 ^ k))
  unfolding swapped
  swapped-bits =
      bit-xor i (bit_xor x (turning mask k x)) (turning mask k x * 2 ^ k)
      ∙ ap (λ (d : ℕ). differ d (bit i (turning mask k x * 2 ^ k))) (bit-xor i x (turning mask k x))

  -- no bit comes up to place i from k places lower
  still : bit i (turning mask k x * 2 ^ k) ≡ 0 → bit i (mask * 2 ^ k) ≡ 0 → bit i (swapped mask k x) ≡ bit (partner mask k i) x
  unfolding partner
  still none low = go (bit-cases i mask)
    where
      here : (d : ℕ) → bit i (turning mask k x) ≡ d → bit i (swapped mask k x) ≡ differ (bit i x) d
      here d e = swapped-bits ∙ ap₂ (λ (u v : ℕ). differ (differ (bit i x) u) v) e none ∙ differ_none (differ (bit i x) d)

      go : (bit i mask ≡ 0) ⊎ (bit i mask ≡ 1) → bit i (swapped mask k x) ≡ bit (i + bit i mask * k - bit i (mask * 2 ^ k) * k) x
      go (inl z) =
          let from : i ≡ i + bit i mask * k - bit i (mask * 2 ^ k) * k = omega arith ∙ ap₂ (λ (u v : ℕ). i + u * k - v * k) (sym z) (sym low) in
          here 0 (turning_off z) ∙ differ_none (bit i x) ∙ ap (λ (j : ℕ). bit j x) from
      go (inr o) =
          let from : k + i ≡ i + bit i mask * k - bit i (mask * 2 ^ k) * k = omega arith ∙ ap₂ (λ (u v : ℕ). i + u * k - v * k) (sym o) (sym low) in
          here (differ (bit i x) (bit (k + i) x)) (turning-on o) ∙ differ_back (bit i x) (bit (k + i) x) (bit-lt i x) (bit-lt (k + i) x) ∙ ap (λ (j : ℕ). bit j x) from

-- bit l comes up by k places
module _ (mask k x l : ℕ) where
  raised : bit l mask ≡ 1 → bit (k + l) mask ≡ 0 → bit (k + l) (swapped mask k x) ≡ bit l x
  raised o z =
      swapped-bits mask k x (k + l)
      ∙ ap₂ (λ (u v : ℕ). differ (differ (bit (k + l) x) u) v) (turning_off mask k x (k + l) z) (bit_up k l (turning mask k x) ∙ turning-on mask k x l o)
      ∙ other (bit l x) (bit (k + l) x) (bit-lt l x) (bit-lt (k + l) x)
    where
      other : (a b : ℕ) → a < 2 → b < 2 → differ (differ b 0) (differ a b) ≡ a
      other a b h g = ap₂ differ (differ_none b) (differ_comm a b h g) ∙ differ_back b a g h

pub swapped-bit : (mask k x i : ℕ) → bit i mask + bit i (mask * 2 ^ k) ≤ 1 → bit i (swapped mask k x) ≡ bit (partner mask k i) x
unfolding partner
swapped-bit mask k x i one = go (lt-or-le i k)
  where
    above : (l : ℕ) → i ≡ k + l → (bit l mask ≡ 0) ⊎ (bit l mask ≡ 1) → bit i (swapped mask k x) ≡ bit (i + bit i mask * k - bit i (mask * 2 ^ k) * k) x
    above l e (inl z) =
        still mask k x i (ap (λ (j : ℕ). bit j (turning mask k x * 2 ^ k)) e ∙ bit_up k l (turning mask k x) ∙ turning_off mask k x l z)
        (ap (λ (j : ℕ). bit j (mask * 2 ^ k)) e ∙ bit_up k l mask ∙ z)
    above l e (inr o) =
        let up : bit i (mask * 2 ^ k) ≡ 1 = ap (λ (j : ℕ). bit j (mask * 2 ^ k)) e ∙ bit_up k l mask ∙ o in
        let off : bit i mask ≡ 0 = omega arith in
        let from : l ≡ i + bit i mask * k - bit i (mask * 2 ^ k) * k = omega arith ∙ ap₂ (λ (u v : ℕ). i + u * k - v * k) (sym off) (sym up) in
        ap (λ (j : ℕ). bit j (swapped mask k x)) e ∙ raised mask k x l o (sym (ap (λ (j : ℕ). bit j mask) e) ∙ off) ∙ ap (λ (j : ℕ). bit j x) from

    go : (i < k) ⊎ (k ≤ i) → bit i (swapped mask k x) ≡ bit (i + bit i mask * k - bit i (mask * 2 ^ k) * k) x
    go (inl l) = still mask k x i (bit-none_under k i (turning mask k x) l) (bit-none_under k i mask l)
    go (inr g) = above (i - k) (omega arith) (bit-cases (i - k) mask)
