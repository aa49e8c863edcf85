-- Which sizes are known, test by test as code goes through them, and what the bounds of a size say of its facts. Assumes nothing.
use Rattle.std.specs.Prelude.{ℕ, zero, suc, ◌+◌, ◌-◌, ◌*◌, ◌%◌, ◌^◌, ◌≤◌, ◌<◌, ◌≡◌, refl, Bool, true, false, leb}
use Rattle.std.proofs.Common.{sym, ap, ◌∙◌, mod-lt, mul-le-mul, mul-le-mul_left, mul-one, zero-lt-suc, arith, pow_pos, pow_mono, leb-true, le-leb}
use Rattle.std.proofs.lemmas.Bool.{lt-leb}
use Rattle.scan.specs.Scan.{pick}
use Rattle.scan.specs.Laws.{true-or, true-false}
use Rattle.meta_parts.specs.Meta.{class_bits, part_bits, served, known, relays, longest, metacube}

-- the bounds
pub record Sized (k m : ℕ) : Type 0 where
  pub few : k ≤ 3
  pub some : 1 ≤ m
  pub narrow : k + m * 2 ^ k ≤ 37

pick_true : (a b : Bool) → pick a b false ≡ true → (a ≡ true) × (b ≡ true)
pick_true true b e = (refl, e)
pick_true false b e = absurd (true-false e refl)

pub served-sized : (k m : ℕ) → served k m ≡ true → Sized k m
served-sized k m e =
    let (a, r) = pick_true (leb k 3) (pick (leb 1 m) (leb (k + m * 2 ^ k) 37) false) e in
    let (b, d) = pick_true (leb 1 m) (leb (k + m * 2 ^ k) 37) r in
    record { few = leb-true k 3 a; some = leb-true 1 m b; narrow = leb-true (k + m * 2 ^ k) 37 d }

-- what the flag that `known` returns says
pub known-sized : {r : Bool} (n : ℕ) → r ≡ known n → r ≡ true → Sized (class_bits n) (part_bits n)
unfolding known
known-sized n e t = served-sized (class_bits n) (part_bits n) (sym e ∙ t)

-- ---- as code goes through the tests

pub many_classes : (n : ℕ) → 3 < class_bits n → false ≡ known n
unfolding known
many_classes n h = simp (lt-leb (class_bits n) 3 h)

pub no_part : (n : ℕ) → class_bits n ≤ 3 → part_bits n < 1 → false ≡ known n
unfolding known
no_part n h g = simp (le-leb (class_bits n) 3 h, lt-leb 1 (part_bits n) g)

pub last-test : (n : ℕ) → class_bits n ≤ 3 → 1 ≤ part_bits n → leb (class_bits n + part_bits n * 2 ^ class_bits n) 37 ≡ known n
unfolding known
last-test n h g = simp (le-leb (class_bits n) 3 h, le-leb 1 (part_bits n) g)

-- ---- bounds of the facts

pub part-bits : (n : ℕ) → part_bits n < 64
unfolding part_bits
part-bits n = mod-lt n (zero-lt-suc 63)

pub classes_few : {k : ℕ} → k ≤ 3 → 2 ^ k ≤ 8
classes_few h = pow_mono h

-- of any size with few class bits
pub span_small : (n : ℕ) → class_bits n ≤ 3 → part_bits n * 2 ^ class_bits n ≤ 512
span_small n h =
    let most : part_bits n ≤ 64 = omega (arith, part-bits n) in
    mul-le-mul most (classes_few h)

module _ {k m : ℕ} (s : Sized k m) where
  -- no part is longer than all parts
  pub part-few : m ≤ m * 2 ^ k
  part-few = let more : m * 1 ≤ m * 2 ^ k = mul-le-mul_left m (pow_pos k) in omega (arith, more, mul-one m)

  pub span-few : m * 2 ^ k ≤ 37
  span-few = omega (arith, s.narrow)

  pub relays-few : relays k m ≤ 2 ^ 37
  relays-few = pow_mono {j = 37} s.narrow

  pub links-few : k + m ≤ 37
  links-few = omega (arith, s.narrow, part-few)

  pub longest-few : longest k m ≤ 44
  longest-few = omega (arith, s.narrow, classes_few s.few)

-- of a size that there is no path is longer than 206 hops
pub short-ways : (n : ℕ) → known n ≡ true → (metacube n).longest < 207
short-ways n k = omega (arith, longest-few (known-sized n refl k))
