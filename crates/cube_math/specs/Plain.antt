-- The bits of small numbers and of 2 ^ n - 1; what may be asked in the cube of n dimensions, with doors shut (`cube_request`).
-- Assumes nothing.
use Rattle.std.specs.Prelude.{ℕ, zero, suc, ◌+◌, ◌-◌, ◌/◌, ◌^◌, ◌≤◌, ◌<◌, ◌≡◌, ◌≢◌}
use Rattle.std.proofs.Common.{sym, ap, ◌∙◌, ⊎_elim, pow-suc, arith, pow_pos}
use Rattle.std.proofs.Math.Arith.{lt-one}
use Rattle.std.specs.Int.Count.{ones, ones-ones}
use Rattle.bits.specs.Bit.{bit}
use Rattle.bits.specs.Laws.{bit-zero, bit-suc, bit-none, clash, lt-or-le}
use Rattle.cube_math.specs.Request.{Request}

-- ---- bits of small numbers, and of 2 ^ n - 1

pub bit_high : (n c x : ℕ) → x < 2 ^ n → n ≤ c → bit c x ≡ 0
bit_high zero c x h g = ap (bit c) (lt-one h) ∙ bit-none c
bit_high (suc n) zero x h g = absurd (omega arith)
bit_high (suc n) (suc c) x h g = bit-suc c x ∙ bit_high n c (x / 2) (omega (arith, rw pow-suc at h)) (omega arith)

pub bit-full : (n i : ℕ) → i < n → bit i (2 ^ n - 1) ≡ 1
bit-full zero i h = absurd (omega arith)
bit-full (suc n) zero h = bit-zero (2 ^ suc n - 1) ∙ omega (arith, pow-suc 2 n, pow_pos n)
bit-full (suc n) (suc i) h =
    let half : (2 ^ suc n - 1) / 2 ≡ 2 ^ n - 1 = omega (arith, pow-suc 2 n, pow_pos n) in
    bit-suc i (2 ^ suc n - 1) ∙ ap (bit i) half ∙ bit-full n i (omega arith)

pub full-below : (n i : ℕ) → bit i (2 ^ n - 1) ≡ 1 → i < n
full-below n i o = ⊎_elim (λ h. h) (λ g. absurd (clash (bit_high n i (2 ^ n - 1) (omega (arith, pow_pos n)) g) o)) (lt-or-le i n)

-- ---- the whole cube

-- a request in the cube of n dimensions, with doors shut
pub cube_request : (n s shut k : ℕ) (to : ℕ → ℕ) → k + ones shut ≤ n → ((i : ℕ) → bit i shut ≡ 1 → i < n) → s < 2 ^ n → ((j : ℕ) → j < k → to j < 2 ^ n)
    → ((j : ℕ) → j < k → to j ≢ s) → ((i j : ℕ) → i < k → j < k → i ≢ j → to i ≢ to j) → Request (2 ^ n - 1) s shut (2 ^ k - 1) to
cube_request n s shut k to room held lt below other differs = record {
  inside = λ j o c ne. ⊎_elim (bit-full n c)
      (λ g. absurd (ne (bit_high n c (to j) (below j (full-below k j o)) g ∙ sym (bit_high n c s lt g)))) (lt-or-le c n);
  other = λ j o. other j (full-below k j o);
  differs = λ i j o p. differs i j (full-below k i o) (full-below k j p);
  held = λ i o. bit-full n i (held i o);
  room = omega (arith, ones-ones k, ones-ones n);
}
