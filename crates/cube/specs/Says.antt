-- What each routine of the plain cube tells, and what it leaves in a lent slice: its faults in their order, else its value.
use Rattle.std.specs.Prelude.{ℕ, ◌+◌, ◌^◌, Bool, false, not, List, ◌++◌, leb, length, drop}
use Rattle.std.proofs.Math.Option.{Option}
use Rattle.answers.specs.Order.{Fault, first, size_faults, pair_faults, room_faults}
use Rattle.answers.specs.Told.{Told, tell, leaves}
use Rattle.answers.specs.declared.Refusal.{Refusal}
use Rattle.requests.specs.Facts as facts
use Rattle.cube.specs.Cube.{known, linked}
use Rattle.cube.specs.Route.{next, hops, route}

-- what may stand against a size: 1; against a source and a target: 1, 2, 5, and 8 where there is no room
abbrev pub size_faults_in : (n : ℕ) → List Fault
size_faults_in n = size_faults (not (known n))

abbrev pub pair_faults_in : (n s t : ℕ) (room : Bool) → List Fault
pair_faults_in n s t room = size_faults_in n ++ pair_faults (2 ^ n) s t ++ room_faults room

abbrev pub size_against : (n : ℕ) → Option Refusal
size_against n = first (size_faults_in n)

abbrev pub pair_against : (n s t : ℕ) (room : Bool) → Option Refusal
pair_against n s t room = first (pair_faults_in n s t room)

-- what stands against a route into so many places: they are to be one more than its hops
abbrev pub route_against : (n s t places : ℕ) → Option Refusal
route_against n s t places = pair_against n s t (leb places (hops s t))

-- a fact of a size, as `requests` tells it
abbrev pub fact_told : (n fact : ℕ) → Told ℕ
fact_told n fact = facts.fact_told (known n) fact

abbrev pub linked_told : (n s t : ℕ) → Told Bool
linked_told n s t = tell (pair_against n s t false) false (linked s t)

abbrev pub next_told : (n s t : ℕ) → Told ℕ
next_told n s t = tell (pair_against n s t false) 0 (next s t)

abbrev pub route_told : (n s t : ℕ) (out : List ℕ) → Told ℕ
route_told n s t out = tell (route_against n s t (length out)) 0 (hops s t)

-- the route at the front of what was there
abbrev pub routed : (s t : ℕ) (out : List ℕ) → List ℕ
routed s t out = route s t ++ drop (hops s t + 1) out

abbrev pub route_leaves : (n s t : ℕ) (out : List ℕ) → List ℕ
route_leaves n s t out = leaves (route_against n s t (length out)) out (routed s t out)
