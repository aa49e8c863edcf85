-- The specification's worked cases of the two-level mesh, from the definitions: A, B (links of two relays of order 2, over all 64), D and E (two
-- plain routes of order 2). Assumes nothing.
use Rattle.std.specs.Prelude.{ℕ, zero, suc, ◌+◌, ◌-◌, ◌*◌, ◌^◌, ◌≡◌, refl, Bool, List, [], ◌∷◌}
use Rattle.std.specs.Int.Count.{ones, ones_in, count_trailing_zeros}
use Rattle.bits.specs.Bit.{bit, flip}
use Rattle.bits.specs.Gray.{gray}
use Rattle.scan.specs.Scan.{pick, seek}
use Rattle.paths.specs.Walk as walk
use Rattle.two_parts.specs.Two.{joined, linked}
use Rattle.two.specs.Next.{differing, place, crossing, toward, heading, crossed, next_block, next_slot, step, next, hops, route}

-- those of the n numbers from i on at which the test holds
unfoldable pub those : (ℕ → Bool) → ℕ → ℕ → List ℕ
those test i zero = []
those test i (suc n) = let rest = those test (suc i) n in pick (test i) (i ∷ rest) rest

abbrev pub CaseA : Type 0
CaseA = those (linked 2 0) 0 64 ≡ 1 ∷ 2 ∷ 4 ∷ []

abbrev pub CaseB : Type 0
CaseB = those (linked 2 27) 0 64 ≡ 25 ∷ 26 ∷ 59 ∷ []

abbrev pub CaseD : Type 0
CaseD = (hops 2 0 23 ≡ 4) × (route 2 0 23 ≡ 0 ∷ 4 ∷ 6 ∷ 22 ∷ 23 ∷ [])

abbrev pub CaseE : Type 0
CaseE = (hops 2 23 0 ≡ 6) × (route 2 23 0 ≡ 23 ∷ 22 ∷ 20 ∷ 16 ∷ 18 ∷ 2 ∷ 0 ∷ [])

-- for each order, a pair whose route has as many hops as any may have (`hops_bound`)
abbrev pub Meets : (m s t : ℕ) → Type 0
Meets m s t = hops m s t ≡ 2 ^ (m + 1) + 2 * m - 1

abbrev pub BoundMet : Type 0
BoundMet = Meets 1 1 6 × Meets 2 3 61 × Meets 3 7 2043 × Meets 4 15 1048567 × Meets 5 31 137438953455

pub case_a : CaseA
unfolding those linked joined ones ones_in
case_a = refl

pub case_b : CaseB
unfolding those linked joined ones ones_in
case_b = refl

pub case_d : CaseD
unfolding route hops walk.hops walk.route walk.node seek next step next_block next_slot crossed heading toward crossing place differing gray bit flip count_trailing_zeros
case_d = (refl, refl)

pub case_e : CaseE
unfolding route hops walk.hops walk.route walk.node seek next step next_block next_slot crossed heading toward crossing place differing gray bit flip count_trailing_zeros
case_e = (refl, refl)

pub bound_met : BoundMet
unfolding hops walk.hops walk.node seek next step next_block next_slot crossed heading toward crossing place differing gray bit flip count_trailing_zeros
bound_met = (refl, refl, refl, refl, refl)
