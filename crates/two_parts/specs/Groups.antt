-- The seen block by swaps: where bit j of the slot b is set, neighbouring groups of 2 ^ j bits are exchanged, under the mask that has the lower of each two. A
-- swap moves each of 32 bits from place p to place p xor 2 ^ j (`swapped-across`, `exchanged-bit`), so five of them from p to p xor b (`moved-bit`); with the
-- bits from 2 ^ m up dropped that is the seen block, of any number (`moved-seen`). Assumes nothing.
use Rattle.std.specs.Prelude.{ℕ, zero, suc, ◌+◌, ◌*◌, ◌/◌, ◌%◌, ◌^◌, ◌≤◌, ◌<◌, ◌≡◌, refl, Bool, true, ◌&&◌, ◌⊎◌, eqb, leb}
use Rattle.std.proofs.Math.Path.{sym, ap}
use Rattle.std.proofs.Common.{◌∙◌, inl, inr, mod-lt, zero-mul, one-mul, mod-eq_of_lt, lt_of_lt_of_le, one-add, arith, pow_pos, pow_mono, shl_lt, eqb-true, leb-true}
use Rattle.std.proofs.Math.Bool.{false, not}
use Rattle.std.proofs.Math.Logic.{⊎_elim}
use Rattle.std.proofs.Math.Arith.{lt-one}
use Rattle.std.proofs.Math.Pow.{pow-lt}
use Rattle.std.proofs.lemmas.Nat.{mod-pow-add, xor_lt}
use Rattle.std.specs.Int.Bits.{bit_xor, xor_zero_r, xor_shifted}
use Rattle.bits.specs.Bit.{bit}
use Rattle.bits.specs.Laws.{bit-cases, same_bits, xor_assoc}
use Rattle.bits.specs.Swaps.{swapped, partner, swapped-bit}
use Rattle.scan.specs.Scan.{pick, seek, any}
use Rattle.scan.specs.Laws.{both_true, any_false, true-or, true-false}
use Rattle.two_parts.specs.Two.{blocks}
use Rattle.two_parts.specs.Parts.{slots-few}
use Rattle.two_parts.specs.Seen.{shuffled, seen_block}
use Rattle.bits.specs.Parts.{bit-mod}
use Rattle.two_parts.specs.Digits.{shuffled-lt, shuffled-bit}

-- of the places below 32, those whose bit j is not set: 0x55555555, 0x33333333, 0x0f0f0f0f, 0x00ff00ff, 0x0000ffff
abbrev pub mask : ℕ → ℕ
mask zero = 1431655765
mask (suc zero) = 858993459
mask (suc (suc zero)) = 252645135
mask (suc (suc (suc zero))) = 16711935
mask (suc (suc (suc (suc j)))) = 65535

-- the groups of 2 ^ j bits exchanged where bit j of b is set
unfoldable pub exchanged : (mask j b x : ℕ) → ℕ
exchanged mask j b x = pick (eqb (bit j b) 1) (swapped mask (2 ^ j) x) x

-- the exchanges for the first n bits of b
unfoldable pub moved : (n b x : ℕ) → ℕ
moved zero b x = x
moved (suc n) b x = exchanged (mask n) n b (moved n b x)

-- a group is at most 16 bits, and what goes up by one stays in a word
module _ (j : ℕ) (h : j < 5) where
  pub group_few : 2 ^ j ≤ 16
  group_few = pow_mono {j = 4} (omega arith)

  pub group_fits : (mask : ℕ) → mask < 2 ^ 32 → mask * 2 ^ (2 ^ j) < 2 ^ 64
  group_fits mask l = lt_of_lt_of_le (shl_lt 32 (2 ^ j) l) (pow_mono {j = 64} (omega (arith, group_few)))

-- under the mask no bit goes two ways, and each comes from the place that differs in bit j
told : (j i : ℕ) → Bool
told j i = leb (bit i (mask j) + bit i (mask j * 2 ^ (2 ^ j))) 1 && eqb (partner (mask j) (2 ^ j) i) (bit_xor i (2 ^ j))

untold : ℕ → Bool
untold j = any (λ i. not (told j i)) 0 32

all_told : any untold 0 5 ≡ false
unfolding any seek untold told partner bit
all_told = refl

module _ (j x i : ℕ) (hj : j < 5) (hi : i < 32) where
  here : told j i ≡ true
  unfolding untold
  here =
      let group : untold j ≡ false = any_false untold 0 5 all_told j (omega arith) (omega arith) in
      ⊎_elim (λ t. t) (λ f. absurd (true-false (ap not f) (any_false (λ k. not (told j k)) 0 32 group i (omega arith) (omega arith)))) (true-or (told j i))

  pub swapped-across : bit i (swapped (mask j) (2 ^ j) x) ≡ bit (bit_xor i (2 ^ j)) x
  unfolding told
  swapped-across =
      let (a, e) = both_true (leb (bit i (mask j) + bit i (mask j * 2 ^ (2 ^ j))) 1) _ here in
      swapped-bit (mask j) (2 ^ j) x i (leb-true _ 1 a) ∙ ap (λ (k : ℕ). bit k x) (eqb-true (partner (mask j) (2 ^ j) i) (bit_xor i (2 ^ j)) e)

  pub exchanged-bit : (b : ℕ) → bit i (exchanged (mask j) j b x) ≡ bit (bit_xor i (bit j b * 2 ^ j)) x
  unfolding exchanged
  exchanged-bit b = go (bit j b) (bit-cases j b)
    where
      go : (d : ℕ) → (d ≡ 0) ⊎ (d ≡ 1) → bit i (pick (eqb d 1) (swapped (mask j) (2 ^ j) x) x) ≡ bit (bit_xor i (d * 2 ^ j)) x
      go d (inl z) = rw z (ap (λ (k : ℕ). bit k x) (sym (ap (bit_xor i) (zero-mul (2 ^ j)) ∙ xor_zero_r i)))
      go d (inr o) = rw o (swapped-across ∙ ap (λ (k : ℕ). bit (bit_xor i k) x) (sym (one-mul (2 ^ j))))

-- the low bits of b, one more
low-more : (n b : ℕ) → bit_xor (bit n b * 2 ^ n) (b % 2 ^ n) ≡ b % 2 ^ suc n
unfolding bit
low-more n b = xor_shifted (b / 2 ^ n % 2) n (b % 2 ^ n) (mod-lt b (pow_pos n)) ∙ sym (mod-pow-add b 1 n) ∙ ap (λ (k : ℕ). b % 2 ^ k) (one-add n)

low_bit : (n b : ℕ) → n < 5 → bit n b * 2 ^ n < 32
low_bit n b h = ⊎_elim (λ z. rw z (omega arith)) (λ o. rw o (omega (arith, pow-lt {i = n} {j = 5} h))) (bit-cases n b)

pub moved-bit : (n b x i : ℕ) → n ≤ 5 → i < 32 → bit i (moved n b x) ≡ bit (bit_xor i (b % 2 ^ n)) x
unfolding moved
moved-bit zero b x i h l = ap (λ (k : ℕ). bit k x) (sym (ap (bit_xor i) (lt-one (mod-lt b (pow_pos 0))) ∙ xor_zero_r i))
moved-bit (suc n) b x i h l =
    exchanged-bit n (moved n b x) i (omega arith) l b
    ∙ moved-bit n b x (bit_xor i (bit n b * 2 ^ n)) (omega arith) (xor_lt 5 i (bit n b * 2 ^ n) l (low_bit n b (omega arith)))
    ∙ ap (λ (k : ℕ). bit k x) (xor_assoc i (bit n b * 2 ^ n) (b % 2 ^ n) ∙ ap (bit_xor i) (low-more n b))

module _ (m a b x : ℕ) (few : m ≤ 5) (hb : b < 2 ^ m) where
  pub moved-seen : moved 5 b (bit_xor x a) % blocks m ≡ seen_block m a b x
  unfolding seen_block
  moved-seen =
      let y = bit_xor x a in
      same_bits (2 ^ m) (moved 5 b y % blocks m) (shuffled (2 ^ m) b y) (mod-lt (moved 5 b y) (pow_pos (2 ^ m))) (shuffled-lt m b hb y)
      (λ i l. bit-mod (2 ^ m) i (moved 5 b y) l ∙ moved-bit 5 b y i (omega arith) (omega (arith, slots-few m few))
      ∙ ap (λ (k : ℕ). bit (bit_xor i k) y) (mod-eq_of_lt (omega (arith, slots-few m few))) ∙ sym (shuffled-bit m b hb y i l))
