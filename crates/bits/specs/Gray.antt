-- The reflected Gray order of numbers: i xor (i div 2) for i = 0, 1, 2 and so on. Each number of it differs from the one before in one bit
-- (`gray-next`), so that two of them differ in no more bits than there are steps between them (`gray-near`); and the first 2 ^ m of them are the
-- numbers below 2 ^ m, each once (`gray-lt`, `gray_onto`, `gray-one`), for every m. Assumes nothing.
use Rattle.std.specs.Prelude.{ℕ, zero, suc, ◌+◌, ◌-◌, ◌*◌, ◌/◌, ◌%◌, ◌^◌, ◌≤◌, ◌<◌, ◌≡◌, refl, ◌⊎◌}
use Rattle.std.proofs.Common.{sym, ap, ◌∙◌, inl, inr, ⊎_elim, mod-lt, pow-suc, zero-lt-suc, arith}
use Rattle.std.proofs.Math.Decide.{ℕ_discrete}
use Rattle.std.proofs.Math.Arith.{lt-one, bin_ind}
use Rattle.std.specs.Int.Bits.{bit_xor, differ, xor_self}
use Rattle.std.proofs.lemmas.Nat.{xor_shr, xor_lt}
use Rattle.std.specs.Int.Count.{ones}
use Rattle.bits.specs.Bit.{bit, flip}
use Rattle.bits.specs.Laws.{bit-zero, bit-cases, low-xor, flip-same, flip-other, flip-half, flip-half-zero, xor_assoc, ones_clear, ones-set, ones-zero}

-- the number at place i of the order
unfoldable pub gray : ℕ → ℕ
gray i = bit_xor i (i / 2)

-- ---- by halves

same_halves : (x y : ℕ) → x / 2 ≡ y / 2 → x % 2 ≡ y % 2 → x ≡ y
same_halves x y h l = omega arith

digit : (x : ℕ) → (x % 2 ≡ 0) ⊎ (x % 2 ≡ 1)
digit x = ⊎_elim (λ e. inl (sym (bit-zero x) ∙ e)) (λ e. inr (sym (bit-zero x) ∙ e)) (bit-cases 0 x)

gray-half : (i : ℕ) → gray i / 2 ≡ gray (i / 2)
unfolding gray
gray-half i = xor_shr i (i / 2) 1

gray-low : (i : ℕ) → gray i % 2 ≡ differ (i % 2) (i / 2 % 2)
unfolding gray
gray-low i = low-xor i (i / 2)

-- the last digit of a number that is odd, or even
low_even : (i : ℕ) → i % 2 ≡ 0 → gray i % 2 ≡ i / 2 % 2
low_even i e = gray-low i ∙ ap (λ (d : ℕ). differ d (i / 2 % 2)) e

low_odd : (i : ℕ) → i % 2 ≡ 1 → gray i % 2 ≡ 1 - i / 2 % 2
low_odd i e = gray-low i ∙ ap (λ (d : ℕ). differ d (i / 2 % 2)) e ∙ other (i / 2 % 2) (mod-lt (i / 2) (zero-lt-suc 1))
  where
    other : (y : ℕ) → y < 2 → differ 1 y ≡ 1 - y
    other zero h = refl
    other (suc zero) h = refl
    other (suc (suc y)) h = absurd (omega arith)

-- ---- one step

flip_low : (x : ℕ) → flip x 0 % 2 ≡ 1 - x % 2
flip_low x = sym (bit-zero (flip x 0)) ∙ flip-same x 0 ∙ ap (λ (y : ℕ). 1 - y) (bit-zero x)

flip_high : (x k : ℕ) → flip x (suc k) % 2 ≡ x % 2
flip_high x k = sym (bit-zero (flip x (suc k))) ∙ flip-other x (suc k) 0 (λ e. omega arith) ∙ bit-zero x

pub gray-next : (i : ℕ) → (k : ℕ) × (gray (suc i) ≡ flip (gray i) k)
gray-next = bin_ind (λ (i : ℕ). (k : ℕ) × (gray (suc i) ≡ flip (gray i) k)) (0, first) (λ i rest. go i rest (digit i))
  where
    turned : (x : ℕ) → suc x % 2 ≡ 1 - x % 2
    turned x = omega arith

    even : (i : ℕ) → i % 2 ≡ 0 → gray (suc i) ≡ flip (gray i) 0
    even i e =
        let half : suc i / 2 ≡ i / 2 = omega arith in
        same_halves (gray (suc i)) (flip (gray i) 0)
        (gray-half (suc i) ∙ ap gray half ∙ sym (gray-half i) ∙ sym (flip-half-zero (gray i)))
        (low_odd (suc i) (omega arith) ∙ ap (λ (x : ℕ). 1 - x % 2) half ∙ ap (λ (x : ℕ). 1 - x) (sym (low_even i e)) ∙ sym (flip_low (gray i)))

    odd : (i k : ℕ) → i % 2 ≡ 1 → gray (suc (i / 2)) ≡ flip (gray (i / 2)) k → gray (suc i) ≡ flip (gray i) (suc k)
    odd i k e r =
        let half : suc i / 2 ≡ suc (i / 2) = omega arith in
        same_halves (gray (suc i)) (flip (gray i) (suc k))
        (gray-half (suc i) ∙ ap gray half ∙ r ∙ ap (λ (x : ℕ). flip x k) (sym (gray-half i)) ∙ sym (flip-half (gray i) k))
        (low_even (suc i) (omega arith) ∙ ap (λ (x : ℕ). x % 2) half ∙ turned (i / 2) ∙ sym (low_odd i e) ∙ sym (flip_high (gray i) k))

    first : gray 1 ≡ flip (gray 0) 0
    first = even 0 refl

    go : (i : ℕ) → (k : ℕ) × (gray (suc (i / 2)) ≡ flip (gray (i / 2)) k) → (i % 2 ≡ 0) ⊎ (i % 2 ≡ 1) → (k : ℕ) × (gray (suc i) ≡ flip (gray i) k)
    go i r (inl e) = (0, even i e)
    go i r (inr e) = (suc r.0, odd i r.0 e r.1)

-- ---- steps

ones-flip : (x k : ℕ) → ones (flip x k) ≤ ones x + 1
ones-flip x k = ⊎_elim (λ (e : bit k x ≡ 0). omega (arith, ones-set k x e)) (λ (e : bit k x ≡ 1). omega (arith, ones_clear k x e)) (bit-cases k x)

xor_flipped : (x y k : ℕ) → bit_xor x (flip y k) ≡ flip (bit_xor x y) k
unfolding flip
xor_flipped x y k = sym (xor_assoc x y (2 ^ k))

pub gray-near : (i j : ℕ) → i ≤ j → ones (bit_xor (gray i) (gray j)) ≤ j - i
gray-near i j h = go (j - i) j (omega arith)
  where
    go : (d j : ℕ) → j ≡ i + d → ones (bit_xor (gray i) (gray j)) ≤ d
    go zero j e =
        let same : j ≡ i = omega arith in
        omega (arith, ap (λ (z : ℕ). ones (bit_xor (gray i) (gray z))) same ∙ ap ones (xor_self (gray i)) ∙ ones-zero)
    go (suc d) j e =
        let (k, s) = gray-next (i + d) in
        let last : j ≡ suc (i + d) = omega arith in
        let turned : ones (bit_xor (gray i) (gray j)) ≡ ones (flip (bit_xor (gray i) (gray (i + d))) k) =
        ap (λ (z : ℕ). ones (bit_xor (gray i) z)) (ap gray last ∙ s) ∙ ap ones (xor_flipped (gray i) (gray (i + d)) k) in
        omega (arith, turned, ones-flip (bit_xor (gray i) (gray (i + d))) k, go d (i + d) refl)

-- ---- each number once

pub gray-lt : (m i : ℕ) → i < 2 ^ m → gray i < 2 ^ m
unfolding gray
gray-lt m i h = xor_lt m i (i / 2) h (omega arith)

pub gray_onto : (m p : ℕ) → p < 2 ^ m → (i : ℕ) × (i < 2 ^ m) × (gray i ≡ p)
unfolding gray
gray_onto zero p h = (0, omega arith, sym (lt-one h))
gray_onto (suc m) p h = let (i, l, e) = gray_onto m (p / 2) (omega (arith, rw pow-suc at h)) in go i l e (ℕ_discrete (p % 2) (i % 2))
  where
    go : (i : ℕ) → i < 2 ^ m → gray i ≡ p / 2 → Dec (p % 2 ≡ i % 2) → (j : ℕ) × (j < 2 ^ suc m) × (gray j ≡ p)
    go i l e (yes d) =
        let half : (i * 2) / 2 ≡ i = omega arith in
        (i * 2, omega (arith, pow-suc 2 m), same_halves (gray (i * 2)) p (gray-half (i * 2) ∙ ap gray half ∙ e) (omega (arith, low_even (i * 2) (omega arith), half)))
    go i l e (no ne) =
        let half : (i * 2 + 1) / 2 ≡ i = omega arith in
        (i * 2 + 1, omega (arith, pow-suc 2 m), same_halves (gray (i * 2 + 1)) p (gray-half (i * 2 + 1) ∙ ap gray half ∙ e) (omega (arith, low_odd (i * 2 + 1) (omega arith), half)))

pub gray-one : (m i j : ℕ) → i < 2 ^ m → j < 2 ^ m → gray i ≡ gray j → i ≡ j
gray-one zero i j hi hj e = lt-one hi ∙ sym (lt-one hj)
gray-one (suc m) i j hi hj e =
    let halves : i / 2 ≡ j / 2 =
    gray-one m (i / 2) (j / 2) (omega (arith, rw pow-suc at hi)) (omega (arith, rw pow-suc at hj)) (sym (gray-half i) ∙ ap (λ (x : ℕ). x / 2) e ∙ gray-half j) in
    same_halves i j halves (lows (digit i) (digit j) halves)
  where
    lows : (i % 2 ≡ 0) ⊎ (i % 2 ≡ 1) → (j % 2 ≡ 0) ⊎ (j % 2 ≡ 1) → i / 2 ≡ j / 2 → i % 2 ≡ j % 2
    lows (inl a) (inl b) h = a ∙ sym b
    lows (inr a) (inr b) h = a ∙ sym b
    lows (inl a) (inr b) h = omega (arith, low_even i a, low_odd j b, ap (λ (x : ℕ). x % 2) e)
    lows (inr a) (inl b) h = omega (arith, low_odd i a, low_even j b, ap (λ (x : ℕ). x % 2) e)
