-- What `distance` tells: refusals 1, 9, 2, 5 in this order, or the fewest links.
use Rattle.std.specs.Prelude.{ℕ, ◌≤◌, ◌<◌, not, List, ◌++◌, ltb}
use Rattle.std.proofs.Math.Option.{Option}
use Rattle.answers.specs.Told.{Told, tell}
use Rattle.answers.specs.Order.{Fault, first, size_faults, distance_faults, pair_faults}
use Rattle.answers.specs.declared.Refusal.{Refusal}
use Rattle.two_parts.specs.Two.{known, relays, two}
use Rattle.paths.specs.Ways.{distance}

-- distance is not answered for orders above 3
abbrev pub distance_faults_in : (m s t : ℕ) → List Fault
distance_faults_in m s t = size_faults (not (known m)) ++ distance_faults (ltb 3 m) ++ pair_faults (relays m) s t

abbrev pub distance_against : (m s t : ℕ) → Option Refusal
distance_against m s t = first (distance_faults_in m s t)

abbrev pub distance_told : (m s t : ℕ) → Told ℕ
distance_told m s t = tell (distance_against m s t) 0 (distance (two m) s t)

-- a relay of an order whose table is held
pub record Held (m r : ℕ) : Type 0 where
  pub low : 1 ≤ m
  pub high : m ≤ 3
  pub below : r < relays m
