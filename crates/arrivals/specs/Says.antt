-- What becomes of a number that arrives at a record, by the specification's rules (`arrival`): at every record, also at those that no history makes.
-- The promise leaves one arrival (`arrival_unique`), and one result (`arrived_unique`). Assumes nothing.
use Rattle.std.specs.Prelude.{◌≡◌, ℕ, ◌+◌, ◌-◌, ◌*◌, ◌%◌, ◌^◌, Bool, false, Result, Ok, Err, ◌==◌, nat_le, nat_lt}
use Rattle.std.proofs.Common.{refl, sym, ap, ◌∙◌}
use Rattle.scan.specs.Scan.{pick}
use Rattle.bits.specs.Bit.{bit, flip}
use Rattle.arrivals.specs.declared.Record.{Record}
use Rattle.arrivals.specs.declared.Dropped.{Dropped}
use Rattle.arrivals.specs.declared.Dropped.TheVariants as dropped

-- ---- what an arrival tells

-- what becomes of a number, with the record afterwards
pub data Arrival : Type 0 where
  Passed : Record → Arrival
  Seen : Record → Arrival
  Old : Record → Arrival

-- a refusal holds the record as it was
abbrev pub arrival_of : (was : Record) → Result Record Dropped → Arrival
arrival_of was (Ok r) = Passed r
arrival_of was (Err dropped.Seen) = Seen was
arrival_of was (Err dropped.Old) = Old was

abbrev pub number : Dropped → ℕ
number dropped.Seen = 41
number dropped.Old = 42

abbrev pub number_of : Arrival → ℕ
number_of (Passed r) = 0
number_of (Seen r) = 41
number_of (Old r) = 42

abbrev pub record_of : Arrival → Record
record_of (Passed r) = r
record_of (Seen r) = r
record_of (Old r) = r

-- ---- numbers that wrap

-- x − y, modulo 2^16
unfoldable pub minus : ℕ → ℕ → ℕ
minus x y = (x + (65536 - y)) % 65536

-- x is 1 to 32,767 ahead of n
unfoldable pub further : (n x : ℕ) → Bool
further n x = pick (nat_le 1 (minus x n)) (nat_le (minus x n) 32767) false

-- x is among the newest 64, of which n is the newest
unfoldable pub near : (n x : ℕ) → Bool
near n x = nat_lt (minus n x) 64

-- ---- the record

abbrev pub kept : (n m : ℕ) → Record
kept n m = record { newest = n; marks = m }

-- the marks when the newest number moves on by d: each stands d places further, those beyond 64 are lost, and the newest is marked
unfoldable pub moved : (m d : ℕ) → ℕ
moved m d = m * 2 ^ d % 2 ^ 64 + 1

-- the arrival of x
unfoldable pub arrival : Record → ℕ → Arrival
arrival r x =
    pick (r.marks == 0) (Passed (kept x 1))
    (pick (further r.newest x) (Passed (kept x (moved r.marks (minus x r.newest))))
    (pick (near r.newest x)
    (pick (bit (minus r.newest x) r.marks == 1) (Seen r) (Passed (kept r.newest (flip r.marks (minus r.newest x)))))
    (Old r)))

pub arrival_unique : (r : Record) (x : ℕ) (a b : Arrival) → a ≡ arrival r x → b ≡ arrival r x → a ≡ b
arrival_unique r x a b p q = p ∙ sym q

-- an arrival says which result it is of
arrived : Arrival → Result Record Dropped
arrived (Passed r) = Ok r
arrived (Seen r) = Err dropped.Seen
arrived (Old r) = Err dropped.Old

arrived_back : (was : Record) (a : Result Record Dropped) → arrived (arrival_of was a) ≡ a
unfolding arrived
arrived_back was (Ok r) = refl
arrived_back was (Err dropped.Seen) = refl
arrived_back was (Err dropped.Old) = refl

pub arrived_unique : (was : Record) (x : ℕ) (a b : Result Record Dropped) → arrival_of was a ≡ arrival was x → arrival_of was b ≡ arrival was x → a ≡ b
arrived_unique was x a b p q = sym (arrived_back was a) ∙ ap arrived (p ∙ sym q) ∙ arrived_back was b
