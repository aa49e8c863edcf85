-- A relay's class and parts, and what a changed bit does to them: from `span` on it is one of the class (`class_high`, `parts_high`), below it one of the parts (`class_low`,
-- `parts_low`), of that whose number is j / m (`part_in`, `part_out`). Assumes nothing.
use Rattle.std.specs.Prelude.{ℕ, zero, suc, ◌+◌, ◌-◌, ◌*◌, ◌/◌, ◌%◌, ◌^◌, ◌≤◌, ◌<◌, ◌≡◌, refl, ◌≢◌, ◌⊎◌}
use Rattle.std.proofs.Math.Path.{sym, ap, ap₂}
use Rattle.std.proofs.Common.{◌∙◌, subst, inl, inr, div-lt_iff_lt-mul, mul_comm, div-add-mod', mul-le-mul_left, mul-suc, arith, pow-add, pow_pos, shr-shr}
use Rattle.std.proofs.Math.Nat.{mod-lt}
use Rattle.std.specs.Int.Bits.{bit_xor, xor_mod}
use Rattle.std.proofs.lemmas.Nat.{xor_shr}
use Rattle.std.proofs.Math.Pow.{shr_lt, split}
use Rattle.bits.specs.Bit.{bit, flip}
use Rattle.bits.specs.Laws.{lt-or-le}
use Rattle.bits.specs.Parts.{flip_high_div, flip_high_mod, flip-low-div, flip-low-mod, bit-mod, bit-shr}
use Rattle.meta_parts.specs.Meta.{span, relays, class_of, parts_of, part}

module _ (k m : ℕ) where
  pub class_below : (u : ℕ) → u < relays k m → class_of k m u < 2 ^ k
  unfolding class_of
  class_below u h = shr_lt k (span k m) h

  pub parts_below : (u : ℕ) → parts_of k m u < 2 ^ span k m
  unfolding parts_of
  parts_below u = mod-lt u (pow_pos (span k m))

  -- relays with the same class and parts are the same
  pub same_parts : (u v : ℕ) → class_of k m u ≡ class_of k m v → parts_of k m u ≡ parts_of k m v → u ≡ v
  unfolding class_of parts_of
  same_parts u v e f = sym (split u (span k m)) ∙ ap₂ (λ (x y : ℕ). x * 2 ^ span k m + y) e f ∙ split v (span k m)

  pub parts_xor : (u v : ℕ) → parts_of k m (bit_xor u v) ≡ bit_xor (parts_of k m u) (parts_of k m v)
  unfolding parts_of
  parts_xor u v = xor_mod u v (span k m)

  -- ---- a changed bit

  module _ (u j : ℕ) where
    pub class_high : class_of k m (flip u (span k m + j)) ≡ flip (class_of k m u) j
    unfolding class_of
    class_high = flip_high_div (span k m) u j

    pub parts_high : parts_of k m (flip u (span k m + j)) ≡ parts_of k m u
    unfolding parts_of
    parts_high = flip_high_mod (span k m) u j

    pub class_low : j < span k m → class_of k m (flip u j) ≡ class_of k m u
    unfolding class_of
    class_low l = flip-low-div (span k m) u j l

    pub parts_low : j < span k m → parts_of k m (flip u j) ≡ flip (parts_of k m u) j
    unfolding parts_of
    parts_low l = flip-low-mod (span k m) u j l

-- ---- one part

module _ (m c : ℕ) where
  pub part-below : (u : ℕ) → part m c u < 2 ^ m
  unfolding part
  part-below u = mod-lt (u / 2 ^ (m * c)) (pow_pos m)

  pub part-bit : (u i : ℕ) → i < m → bit i (part m c u) ≡ bit (m * c + i) u
  unfolding part
  part-bit u i l = bit-mod m i (u / 2 ^ (m * c)) l ∙ bit-shr (m * c) i u

  pub part_in : (u i : ℕ) → i < m → part m c (flip u (m * c + i)) ≡ flip (part m c u) i
  unfolding part
  part_in u i l = ap (λ (x : ℕ). x % 2 ^ m) (flip_high_div (m * c) u i) ∙ flip-low-mod m (u / 2 ^ (m * c)) i l

  under : (u j : ℕ) → j < m * c → part m c (flip u j) ≡ part m c u
  unfolding part
  under u j l = ap (λ (x : ℕ). x % 2 ^ m) (flip-low-div (m * c) u j l)

  over : (u i : ℕ) → part m c (flip u (m * c + (m + i))) ≡ part m c u
  unfolding part
  over u i = ap (λ (x : ℕ). x % 2 ^ m) (flip_high_div (m * c) u (m + i)) ∙ flip_high_mod m (u / 2 ^ (m * c)) i

  -- a bit of another part
  pub part_out : (u j : ℕ) → ((i : ℕ) → i < m → j ≢ m * c + i) → part m c (flip u j) ≡ part m c u
  part_out u j h = go (lt-or-le j (m * c))
    where
      go : (j < m * c) ⊎ (m * c ≤ j) → part m c (flip u j) ≡ part m c u
      go (inl l) = under u j l
      go (inr l) =
          let far : m ≤ j - m * c = beyond (lt-or-le (j - m * c) m) in
          let at : j ≡ m * c + (m + (j - m * c - m)) = omega arith in
          ap (λ (x : ℕ). part m c (flip u x)) at ∙ over u (j - m * c - m)
        where
          beyond : (j - m * c < m) ⊎ (m ≤ j - m * c) → m ≤ j - m * c
          beyond (inl b) = absurd (h (j - m * c) b (omega arith))
          beyond (inr b) = b

-- ---- which part a bit is of

-- a bit of part c, for a class c, is one of the parts
pub bit_within : (k m c i : ℕ) → c < 2 ^ k → i < m → m * c + i < m * 2 ^ k
bit_within k m c i h l = omega (arith, mul-le-mul_left m h, mul-suc m c)

-- each of their bits is one of a part
pub bit-part : (k m j : ℕ) → 1 ≤ m → j < m * 2 ^ k → (j / m < 2 ^ k) × (j % m < m) × (j ≡ m * (j / m) + j % m)
bit-part k m j s l =
    ((div-lt_iff_lt-mul s).1 (subst (λ (x : ℕ). j < x) (mul_comm m (2 ^ k)) l), mod-lt j s, sym (div-add-mod' j m) ∙ ap (λ (x : ℕ). x + j % m) (mul_comm (j / m) m))
