-- The marks bit by bit: what a move of the newest number makes of them (`moved-newest`, `moved_between`, `moved_older`), and that a shift of the word computes it
-- (`moved_shift`, `moved-far`). Assumes nothing.
use Rattle.std.specs.Prelude.{◌≡◌, ℕ, zero, suc, ◌+◌, ◌-◌, ◌*◌, ◌/◌, ◌%◌, ◌^◌, ◌<◌, ◌≤◌, bit_or}
use Rattle.std.proofs.Common.{sym, ap, ap₂, ◌∙◌, mul_assoc, mul-one, zero-add, suc-add, arith, pow-add}
use Rattle.std.proofs.Math.Nat.{mul-mod_left}
use Rattle.std.proofs.Math.Pow.{mod-mod-pow, field}
use Rattle.std.proofs.lemmas.Nat.{or_shifted}
use Rattle.std.specs.Int.Bits.{shifted_even, shifted_half}
use Rattle.bits.specs.Bit.{bit}
use Rattle.bits.specs.Laws.{bit-zero, bit-suc}
use Rattle.arrivals.specs.Says.{moved}

-- the place of the newest number is free
even : (m d : ℕ) → 1 ≤ d → m * 2 ^ d % 2 ^ 64 % 2 ≡ 0
even m zero h = absurd (omega arith)
even m (suc d) h = mod-mod-pow (m * 2 ^ suc d) 63 1 ∙ shifted_even m d

or-one : (v : ℕ) → v % 2 ≡ 0 → bit_or v 1 ≡ v + 1
or-one v e =
    let twice : v ≡ v / 2 * 2 ^ 1 = omega arith in
    ap (λ (y : ℕ). bit_or y 1) twice ∙ or_shifted (v / 2) 1 1 (omega arith) ∙ ap (λ (y : ℕ). y + 1) (sym twice)

pub moved_shift : (m d : ℕ) → 1 ≤ d → bit_or (m * 2 ^ d % 2 ^ 64) 1 ≡ moved m d
unfolding moved
moved_shift m d h = or-one (m * 2 ^ d % 2 ^ 64) (even m d h)

pub moved-far : (m d : ℕ) → 64 ≤ d → 1 ≡ moved m d
unfolding moved
moved-far m d h =
    let parts : m * 2 ^ d ≡ m * 2 ^ (d - 64) * 2 ^ 64 =
    ap (λ (y : ℕ). m * 2 ^ y) (omega arith) ∙ ap (λ (y : ℕ). m * y) (pow-add 2 (d - 64) 64) ∙ sym (mul_assoc m (2 ^ (d - 64)) (2 ^ 64)) in
    sym (ap (λ (y : ℕ). y % 2 ^ 64 + 1) parts ∙ ap (λ (y : ℕ). y + 1) (mul-mod_left (m * 2 ^ (d - 64)) (2 ^ 64)))

-- ---- bit by bit

-- a bit below w of what is left of y in w bits
bit-mod : (w i y : ℕ) → i < w → bit i (y % 2 ^ w) ≡ bit i y
unfolding bit
bit-mod w i y h =
    let k = w - i - 1 in
    ap (λ (u : ℕ). y % 2 ^ u / 2 ^ i % 2) (omega arith) ∙ ap (λ (v : ℕ). v % 2) (field y (k + 1) i) ∙ mod-mod-pow (y / 2 ^ i) k 1

bit_shifted : (d i m : ℕ) → bit (d + i) (m * 2 ^ d) ≡ bit i m
bit_shifted zero i m = ap₂ bit (zero-add i) (mul-one m)
bit_shifted (suc d) i m = ap (λ (k : ℕ). bit k (m * 2 ^ suc d)) (suc-add d i) ∙ bit-suc (d + i) (m * 2 ^ suc d) ∙ ap (bit (d + i)) (shifted_half m d) ∙ bit_shifted d i m

bit_under : (d i m : ℕ) → i < d → bit i (m * 2 ^ d) ≡ 0
bit_under zero i m h = absurd (omega arith)
bit_under (suc d) zero m h = bit-zero (m * 2 ^ suc d) ∙ shifted_even m d
bit_under (suc d) (suc i) m h = bit-suc i (m * 2 ^ suc d) ∙ ap (bit i) (shifted_half m d) ∙ bit_under d i m (omega arith)

-- the bits above the lowest, where that one was free
bit-more : (i v : ℕ) → v % 2 ≡ 0 → bit (suc i) (v + 1) ≡ bit (suc i) v
bit-more i v e =
    let half : (v + 1) / 2 ≡ v / 2 = omega arith in
    bit-suc i (v + 1) ∙ ap (bit i) half ∙ sym (bit-suc i v)

-- the newest number is marked
pub moved-newest : (m d : ℕ) → 1 ≤ d → bit 0 (moved m d) ≡ 1
unfolding moved
moved-newest m d h = bit-zero (m * 2 ^ d % 2 ^ 64 + 1) ∙ omega (arith, even m d h)

-- what lies above is the shifted word
moved_above : (m d i : ℕ) → 1 ≤ d → 1 ≤ i → i < 64 → bit i (moved m d) ≡ bit i (m * 2 ^ d)
unfolding moved
moved_above m d zero h g l = absurd (omega arith)
moved_above m d (suc i) h g l = bit-more i (m * 2 ^ d % 2 ^ 64) (even m d h) ∙ bit-mod 64 (suc i) (m * 2 ^ d) l

-- the numbers between the newest and the newest before are not
pub moved_between : (m d i : ℕ) → 1 ≤ i → i < d → i < 64 → bit i (moved m d) ≡ 0
moved_between m d i h g l = moved_above m d i (omega arith) h l ∙ bit_under d i m g

-- the others keep their marks, d places further
pub moved_older : (m d i : ℕ) → 1 ≤ d → d + i < 64 → bit (d + i) (moved m d) ≡ bit i m
moved_older m d i h l = moved_above m d (d + i) h (omega arith) l ∙ bit_shifted d i m
