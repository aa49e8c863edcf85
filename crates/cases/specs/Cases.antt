-- The worked cases marked with a star, as one theorem: `cases`. Each is computed from the definitions that the contracts cite.
-- Assumes nothing.
use Rattle.std.specs.Prelude.{◌≡◌, refl, [], ◌∷◌}
use Rattle.std.specs.Int.Count.{count_trailing_zeros}
use Rattle.answers.specs.Told.{told}
use Rattle.bits.specs.Bit.{flip}
use Rattle.scan.specs.Scan.{seek}
use Rattle.paths.specs.Walk as walk
use Rattle.cube.specs.Route as cube
use Rattle.cube.specs.Says.{route_told, route_leaves}
use Rattle.two.specs.Cases.{CaseA, CaseB, CaseD, CaseE, case_a, case_b, case_d, case_e}
use Rattle.two_distance.specs.Cases.{CaseF, case_f}
use Rattle.cube_plan.specs.Cases.{CaseG, case_g}
use Rattle.two_plan.specs.Cases.{CaseH, case_h}
use Rattle.sheet.specs.Cases.{CaseI, case_i}

-- a field for each case; a lent slice has one place more than its route
pub record Cases : Type 0 where
  -- A: order 2, relay 0 is linked to 1, 2, 4 only; B: relay 27 to 25, 26, 59
  pub a : CaseA
  pub b : CaseB
  -- C: cube 4, route 0 to 11: 0, 1, 3, 11
  pub c-route : cube.route 0 11 ≡ 0 ∷ 1 ∷ 3 ∷ 11 ∷ []
  pub c-told : route_told 4 0 11 (9 ∷ 9 ∷ 9 ∷ 9 ∷ 9 ∷ []) ≡ told 0 0 3
  pub c-leaves : route_leaves 4 0 11 (9 ∷ 9 ∷ 9 ∷ 9 ∷ 9 ∷ []) ≡ 0 ∷ 1 ∷ 3 ∷ 11 ∷ 9 ∷ []
  -- D: order 2, route 0 to 23: 0, 4, 6, 22, 23; E: 23 to 0: 23, 22, 20, 16, 18, 2, 0
  pub d : CaseD
  pub e : CaseE
  -- F: order 1, distances of 0 to 7 from 0: 0, 1, 1, 2, 3, 2, 4, 3
  pub f : CaseF
  -- G: cube 2, from 0 to 3 and 1: 0, 2, 3 and 0, 1 is a fan, and the only one
  pub g : CaseG
  -- H: order 1, from 0 to 4 and 6: 0, 1, 5, 4 and 0, 2, 3, 7, 6 is a fan, and the only one
  pub h : CaseH
  -- I: cube 1, the sheet of the path 0 to 1: 00 00 00 16 01 01 01 01, eight 00, 00 01, seven 00, 01
  pub i : CaseI

pub cases : Cases
unfolding cube.route cube.hops cube.next walk.hops walk.route walk.node seek flip count_trailing_zeros
cases = record { a = case_a; b = case_b; c-route = refl; c-told = refl; c-leaves = refl; d = case_d; e = case_e; f = case_f; g = case_g; h = case_h; i = case_i }
