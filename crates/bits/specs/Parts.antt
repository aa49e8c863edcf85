-- A number in two parts, its bits from n up (x / 2 ^ n) and those under n (x % 2 ^ n): what a changed bit does to each of them (`flip_high_div`, `flip_high_mod`, `flip-low-div`,
-- `flip-low-mod`), and where the bits of each stand in the number (`bit-shr`, `bit-mod`). Assumes nothing.
use Rattle.std.specs.Prelude.{ℕ, zero, suc, ◌+◌, ◌*◌, ◌/◌, ◌%◌, ◌^◌, ◌≤◌, ◌<◌, ◌≡◌}
use Rattle.std.proofs.Common.{sym, ◌∙◌, ⊎_elim, pow-suc, add_comm, mod-eq_of_lt, arith, pow-add, shr-shr}
use Rattle.std.proofs.Math.Path.{ap}
use Rattle.std.proofs.Math.Nat.{div-eq_of_lt, mul-mod_left}
use Rattle.std.proofs.Math.Arith.{lt-one}
use Rattle.std.specs.Int.Bits.{bit_xor, xor_shr, xor_mod, xor_zero_r, block_half, block_odd}
use Rattle.std.proofs.lemmas.Nat.{xor_comm}
use Rattle.std.proofs.Math.Pow.{pow-lt, shl-shr, split}
use Rattle.bits.specs.Bit.{bit, flip, Lowest}
use Rattle.bits.specs.Laws.{bit-zero, bit-suc, bit-none, clash, lt-or, lt-or-le, xor_back}

-- ---- one bit

-- a number below 2 ^ n has no bit from n on
pub bit_high : (n c x : ℕ) → x < 2 ^ n → n ≤ c → bit c x ≡ 0
bit_high zero c x h g = ap (bit c) (lt-one h) ∙ bit-none c
bit_high (suc n) zero x h g = absurd (omega arith)
bit_high (suc n) (suc c) x h g = bit-suc c x ∙ bit_high n c (x / 2) (omega (arith, rw pow-suc at h)) (omega arith)

pub bit_below : (n i x : ℕ) → x < 2 ^ n → bit i x ≡ 1 → i < n
bit_below n i x h o = ⊎_elim (λ l. l) (λ g. absurd (clash (bit_high n i x h g) o)) (lt-or-le i n)

-- the lowest set bit is the same at every width
pub lowest_alike : (v w x i j : ℕ) → Lowest v x i → Lowest w x j → i ≡ j
lowest_alike v w x i j p q =
    ⊎_elim (λ l. absurd (clash (q.below i l) p.set))
    (λ r. ⊎_elim (λ e. e) (λ l. absurd (clash (p.below j l) q.set)) r) (lt-or i j)

-- ---- two numbers that differ in one bit

pub xor_forth : (a b : ℕ) → bit_xor a (bit_xor a b) ≡ b
xor_forth a b = xor_comm a (bit_xor a b) ∙ ap (λ (y : ℕ). bit_xor y a) (xor_comm a b) ∙ xor_back b a

-- the xor is one bit: the one has it changed
pub xor-flip : (x y i : ℕ) → bit_xor x y ≡ 2 ^ i → y ≡ flip x i
unfolding flip
xor-flip x y i e = sym (xor_forth x y) ∙ ap (bit_xor x) e

pub flip_is_xor : (x y i : ℕ) → y ≡ flip x i → bit_xor x y ≡ 2 ^ i
unfolding flip
flip_is_xor x y i e = ap (bit_xor x) e ∙ xor_forth x (2 ^ i)

-- ---- bits of the parts

pub bit_under : (n i q r : ℕ) → i < n → bit i (q * 2 ^ n + r) ≡ bit i r
bit_under zero i q r l = absurd (omega arith)
bit_under (suc n) zero q r l = bit-zero (q * 2 ^ suc n + r) ∙ block_odd q n r ∙ sym (bit-zero r)
bit_under (suc n) (suc i) q r l =
    bit-suc i (q * 2 ^ suc n + r) ∙ ap (bit i) (block_half q n r) ∙ bit_under n i q (r / 2) (omega arith) ∙ sym (bit-suc i r)

-- the bits under n stay where those from n up are dropped
pub bit-mod : (n i x : ℕ) → i < n → bit i (x % 2 ^ n) ≡ bit i x
bit-mod n i x l = sym (bit_under n i (x / 2 ^ n) (x % 2 ^ n) l) ∙ ap (bit i) (split x n)

-- those from n up, with the others dropped
pub bit-shr : (n i x : ℕ) → bit i (x / 2 ^ n) ≡ bit (n + i) x
unfolding bit
bit-shr n i x = ap (λ (y : ℕ). y % 2) (shr-shr x n i)

-- ---- a changed bit

pow_high : (n d : ℕ) → 2 ^ (n + d) ≡ 2 ^ d * 2 ^ n
pow_high n d = ap (λ (y : ℕ). 2 ^ y) (add_comm n d) ∙ pow-add 2 d n

module _ (n x d : ℕ) where
  pub flip_high_div : flip x (n + d) / 2 ^ n ≡ flip (x / 2 ^ n) d
  unfolding flip
  flip_high_div = xor_shr x (2 ^ (n + d)) n ∙ ap (bit_xor (x / 2 ^ n)) (ap (λ (y : ℕ). y / 2 ^ n) (pow_high n d) ∙ shl-shr (2 ^ d) n)

  pub flip_high_mod : flip x (n + d) % 2 ^ n ≡ x % 2 ^ n
  unfolding flip
  flip_high_mod = xor_mod x (2 ^ (n + d)) n ∙ ap (bit_xor (x % 2 ^ n)) (ap (λ (y : ℕ). y % 2 ^ n) (pow_high n d) ∙ mul-mod_left (2 ^ d) (2 ^ n)) ∙ xor_zero_r (x % 2 ^ n)

  pub flip-low-div : d < n → flip x d / 2 ^ n ≡ x / 2 ^ n
  unfolding flip
  flip-low-div l = xor_shr x (2 ^ d) n ∙ ap (bit_xor (x / 2 ^ n)) (div-eq_of_lt (pow-lt l)) ∙ xor_zero_r (x / 2 ^ n)

  pub flip-low-mod : d < n → flip x d % 2 ^ n ≡ flip (x % 2 ^ n) d
  unfolding flip
  flip-low-mod l = xor_mod x (2 ^ d) n ∙ ap (bit_xor (x % 2 ^ n)) (mod-eq_of_lt (pow-lt l))
