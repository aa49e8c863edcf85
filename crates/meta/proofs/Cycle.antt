-- The classes along the cyclic Gray order, of at most 3 bits: the class after c (`after`), and how many moves it is from one class to another (`away`). `place-gray`: the place of
-- a class in the order. One computed test over every such k and every two classes (`all-round`) says that a move changes one bit of the class (`after_flips`), and brings every other class
-- one move nearer (`away-step`), which is fewer moves away than there are classes (`away-few`). Assumes nothing.
use Rattle.std.specs.Prelude.{ℕ, zero, suc, ◌+◌, ◌/◌, ◌^◌, ◌≤◌, ◌<◌, ◌≡◌, refl, Bool, true, false, not, ◌&&◌, ◌||◌, ◌≢◌, eqb, ltb}
use Rattle.std.proofs.Common.{⊎_elim, arith, eqb-true, ltb-true, ne_eqb}
use Rattle.std.specs.Int.Bits.{bit_xor}
use Rattle.std.proofs.lemmas.Nat.{xor_lt}
use Rattle.std.proofs.lemmas.Bool.{not-false}
use Rattle.bits.specs.Bit.{flip}
use Rattle.bits.specs.Gray.{gray}
use Rattle.scan.specs.Scan.{any, seek}
use Rattle.scan.specs.Laws.{both_true, either_true, true-false, any-true, any_false}
use Rattle.meta.specs.Cycle.{place, after, away}

-- a place of three bits
pub place-few : (c : ℕ) → c < 8 → bit_xor (bit_xor c (c / 2)) (c / 4) < 8
place-few c h = xor_lt 3 (bit_xor c (c / 2)) (c / 4) (xor_lt 3 c (c / 2) h (omega arith)) (omega arith)

-- ---- the test

-- the order has each class at its place
ordered : (c : ℕ) → Bool
ordered c = eqb (gray (place c)) c

-- a move changes one bit; of no bits there is one class
flips : (k c : ℕ) → Bool
flips k c = eqb k 0 || any (λ b. eqb (flip c b) (after k c)) 0 k

-- and brings every other class nearer
nears : (k c e : ℕ) → Bool
nears k c e = ltb (away k c e) (2 ^ k) && (eqb c e || eqb (away k (after k c) e + 1) (away k c e))

round : (k c e : ℕ) → Bool
round k c e = flips k c && nears k c e

all-ordered : any (λ c. not (ordered c)) 0 8 ≡ false
unfolding ordered gray place any seek
all-ordered = refl

all-round : (k : ℕ) → k ≤ 3 → any (λ c. any (λ e. not (round k c e)) 0 (2 ^ k)) 0 (2 ^ k) ≡ false
unfolding round flips nears away after gray place flip any seek
all-round zero h = refl
all-round (suc zero) h = refl
all-round (suc (suc zero)) h = refl
all-round (suc (suc (suc zero))) h = refl
all-round (suc (suc (suc (suc k)))) h = absurd (omega arith)

-- ---- at each class

pub place-gray : (c : ℕ) → c < 8 → gray (place c) ≡ c
unfolding ordered
place-gray c h = eqb-true (gray (place c)) c (not-false (ordered c) (any_false (λ c. not (ordered c)) 0 8 all-ordered c (omega arith) (omega arith)))

module _ (k c e : ℕ) (few : k ≤ 3) (hc : c < 2 ^ k) (he : e < 2 ^ k) where
  holds : round k c e ≡ true
  holds =
      let row = any_false (λ c. any (λ e. not (round k c e)) 0 (2 ^ k)) 0 (2 ^ k) (all-round k few) c (omega arith) (omega arith) in
      not-false (round k c e) (any_false (λ e. not (round k c e)) 0 (2 ^ k) row e (omega arith) (omega arith))

  near-part : (ltb (away k c e) (2 ^ k) ≡ true) × ((eqb c e || eqb (away k (after k c) e + 1) (away k c e)) ≡ true)
  unfolding round nears
  near-part = both_true (ltb (away k c e) (2 ^ k)) _ (both_true (flips k c) _ holds).1

  pub away-few : away k c e < 2 ^ k
  away-few = ltb-true (away k c e) (2 ^ k) near-part.0

  pub away-step : c ≢ e → away k (after k c) e + 1 ≡ away k c e
  away-step ne =
      eqb-true (away k (after k c) e + 1) (away k c e)
      (⊎_elim (λ t. absurd (true-false t (ne_eqb c e ne))) (λ t. t) (either_true (eqb c e) (eqb (away k (after k c) e + 1) (away k c e)) near-part.1))

pub after_flips : (k c : ℕ) → k ≤ 3 → c < 2 ^ k → 0 < k → (b : ℕ) × (b < k) × (flip c b ≡ after k c)
unfolding round flips
after_flips k c few hc some =
    let t = (both_true (flips k c) _ (holds k c c few hc hc)).0 in
    let found = ⊎_elim (λ z. absurd (omega (arith, eqb-true k 0 z))) (λ z. z) (either_true (eqb k 0) (any (λ b. eqb (flip c b) (after k c)) 0 k) t) in
    let (b, a, l, z) = any-true (λ b. eqb (flip c b) (after k c)) 0 k found in
    (b, omega (arith, l), eqb-true (flip c b) (after k c) z)
