-- The rules case by case (`arrival-first`, `arrival-seen`, `arrival-marked`, `arrival-further`, `arrival_old`), the wrapping difference
-- (`minus_is`), the number that is told (`number-told`), and that a refusal leaves the record as it was (`refused_leaves`). Assumes nothing.
use Rattle.std.specs.Prelude.{◌≡◌, ℕ, zero, suc, ◌+◌, ◌%◌, ◌<◌, ◌≤◌, Bool, true, false, Result, Ok, Err, ◌==◌, ◌≢◌, nat_le, refl}
use Rattle.std.proofs.Common.{sym, ltb-true, leb-true, lt-ltb, le-ltb, le-leb, eq-eqb, ne_eqb}
use native.Mathlib.Omega.{arith}
use Rattle.std.proofs.lemmas.Bool.{lt-leb}
use Rattle.scan.specs.Scan.{pick}
use Rattle.scan.specs.Laws.{true-false}
use Rattle.bits.specs.Bit.{bit, flip}
use Rattle.answers.specs.Told.{of_reason}
use Rattle.arrivals.specs.Says.{Arrival, Passed, Seen, Old, arrival_of, number, number_of, record_of, minus, further, near, kept, moved, arrival}
use Rattle.arrivals.specs.declared.Dropped.{Dropped}
use Rattle.arrivals.specs.declared.Dropped.TheVariants as dropped
use Rattle.arrivals.specs.declared.Record.{Record}

-- ---- numbers that wrap

-- the number that y added to wraps back to x
pub minus_is : {x y d : ℕ} → d < 65536 → y < 65536 → (d + y) % 65536 ≡ x → d ≡ minus x y
unfolding minus
minus_is p q e = omega arith

-- ahead and behind add up to nothing
pub unlike : (n x : ℕ) → n < 65536 → x < 65536 → (minus x n + minus n x) % 65536 ≡ 0
unfolding minus
unlike n x p q = omega arith

pub minus-below : (x y : ℕ) → minus x y < 65536
unfolding minus
minus-below x y = omega arith

pub minus_self : (x : ℕ) → x < 65536 → minus x x ≡ 0
unfolding minus
minus_self x h = omega arith

pub minus-none : (x : ℕ) → x < 65536 → minus x 0 ≡ x
unfolding minus
minus-none x h = omega arith

-- the number as far behind as x is, is x
pub minus_back : (n x : ℕ) → n < 65536 → x < 65536 → minus n (minus n x) ≡ x
unfolding minus
minus_back n x p q = omega arith

-- the newest moves on from n to x: what stood i behind stands so much further behind
pub minus_older : (n x i : ℕ) → n < 65536 → x < 65536 → minus x n + i < 65536 → minus x (minus x n + i) ≡ minus n i
unfolding minus
minus_older n x i p q h = omega arith

-- and the numbers between them are far behind n
pub minus_between : (n x i : ℕ) → n < 65536 → x < 65536 → minus x n ≤ 32767 → 1 ≤ i → i < minus x n → 64 ≤ minus n (minus x i)
unfolding minus
minus_between n x i p q h g l = omega arith

-- ---- the two tests

pub further-true : (n x : ℕ) → 1 ≤ minus x n → minus x n ≤ 32767 → further n x ≡ true
unfolding further
further-true n x p q = simp (le-leb 1 (minus x n) p, le-leb (minus x n) 32767 q)

pub further-some : (n x : ℕ) → further n x ≡ true → 1 ≤ minus x n
unfolding further
further-some n x e = leb-true 1 (minus x n) (both (nat_le 1 (minus x n)) (nat_le (minus x n) 32767) e)
  where
    both : (a b : Bool) → pick a b false ≡ true → a ≡ true
    both true b e = refl
    both false b e = e

pub further-most : (n x : ℕ) → further n x ≡ true → minus x n ≤ 32767
unfolding further
further-most n x e = leb-true (minus x n) 32767 (both (nat_le 1 (minus x n)) (nat_le (minus x n) 32767) e)
  where
    both : (a b : Bool) → pick a b false ≡ true → b ≡ true
    both true b e = e
    both false b e = absurd (true-false e refl)

-- more than 32,767 ahead: as good as behind
pub further-far : (n x : ℕ) → 32767 < minus x n → further n x ≡ false
unfolding further
further-far n x p = simp (le-leb 1 (minus x n) (omega arith), lt-leb (minus x n) 32767 p)

pub further_same : (n x : ℕ) → minus x n ≡ 0 → further n x ≡ false
unfolding further
further_same n x e = simp e

pub near-true : (n x : ℕ) → minus n x < 64 → near n x ≡ true
unfolding near
near-true n x p = lt-ltb (minus n x) 64 p

pub near-false : (n x : ℕ) → 64 ≤ minus n x → near n x ≡ false
unfolding near
near-false n x p = le-ltb (minus n x) 64 p

pub near-below : (n x : ℕ) → near n x ≡ true → minus n x < 64
unfolding near
near-below n x e = ltb-true (minus n x) 64 e

pub near_self : (x : ℕ) → x < 65536 → near x x ≡ true
near_self x h = near-true x x (omega (arith, minus_self x h))

-- the newest 64 are not ahead
pub near-further : (n x : ℕ) → n < 65536 → x < 65536 → minus n x < 64 → further n x ≡ false
unfolding minus
near-further n x p q h = go (minus x n) refl
  where
    go : (d : ℕ) → d ≡ minus x n → further n x ≡ false
    go zero e = further_same n x (sym e)
    go (suc d) e = further-far n x (omega arith)

-- ---- the rules

module _ (r : Record) (x : ℕ) where
  pub arrival-first : r.marks ≡ 0 → arrival r x ≡ Passed (kept x 1)
  unfolding arrival
  arrival-first e = simp (eq-eqb r.marks 0 e)

  -- d ahead, b behind
  module _ (some : r.marks ≡ 0 → ⊥) (fits : r.newest < 65536) (small : x < 65536) {d b : ℕ} (ahead : d ≡ minus x r.newest) (behind : b ≡ minus r.newest x) where
    pub arrival-seen : b < 64 → bit b r.marks ≡ 1 → arrival r x ≡ Seen r
    unfolding arrival
    arrival-seen p e =
        let h : minus r.newest x < 64 = omega arith in
        simp (ne_eqb r.marks 0 some, near-further r.newest x fits small h, near-true r.newest x h, ← behind, e)

    pub arrival-marked : b < 64 → bit b r.marks ≡ 0 → arrival r x ≡ Passed (kept r.newest (flip r.marks b))
    unfolding arrival
    arrival-marked p e =
        let h : minus r.newest x < 64 = omega arith in
        simp (ne_eqb r.marks 0 some, near-further r.newest x fits small h, near-true r.newest x h, ← behind, e)

    pub arrival-further : 64 ≤ b → d ≤ 32767 → arrival r x ≡ Passed (kept x (moved r.marks d))
    unfolding arrival
    arrival-further p q =
        simp (ne_eqb r.marks 0 some, further-true r.newest x (omega (arith, unlike r.newest x fits small, minus-below r.newest x)) (omega arith), ← ahead)

    pub arrival_old : 64 ≤ b → 32767 < d → arrival r x ≡ Old r
    unfolding arrival
    arrival_old p q = simp (ne_eqb r.marks 0 some, further-far r.newest x (omega arith), near-false r.newest x (omega arith))

-- ---- what is told

-- the numbers have two digits at most
pub number-few : (a : Arrival) → number_of a < 100
number-few (Passed r) = omega arith
number-few (Seen r) = omega arith
number-few (Old r) = omega arith

-- the number of an arrival, or 0, is what code tells of it
pub number-told : (was : Record) (r : Result Record Dropped) → of_reason number r ≡ number_of (arrival_of was r)
number-told was (Ok kept) = refl
number-told was (Err dropped.Seen) = refl
number-told was (Err dropped.Old) = refl

-- a refusal leaves the record as it was
pub refused_leaves : (r : Record) (x : ℕ) → (number_of (arrival r x) ≢ 0) → record_of (arrival r x) ≡ r
unfolding arrival
refused_leaves r x =
    go (kept x 1) (kept x (moved r.marks (minus x r.newest))) (kept r.newest (flip r.marks (minus r.newest x)))
    (r.marks == 0) (further r.newest x) (near r.newest x) (bit (minus r.newest x) r.marks == 1)
  where
    go : (u v w : Record) (a b c d : Bool) → (number_of (pick a (Passed u) (pick b (Passed v) (pick c (pick d (Seen r) (Passed w)) (Old r)))) ≢ 0)
        → record_of (pick a (Passed u) (pick b (Passed v) (pick c (pick d (Seen r) (Passed w)) (Old r)))) ≡ r
    go u v w true b c d ne = absurd (ne refl)
    go u v w false true c d ne = absurd (ne refl)
    go u v w false false true true ne = refl
    go u v w false false true false ne = absurd (ne refl)
    go u v w false false false d ne = refl
