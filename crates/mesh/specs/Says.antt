-- What each routine over every kind of mesh tells, and what it leaves in a lent slice: its faults in their order, else its value.
use Rattle.std.specs.Prelude.{ℕ, ◌+◌, ◌*◌, Bool, true, false, not, List, ◌++◌, leb, ltb, length, drop}
use Rattle.std.proofs.Math.Option.{Option}
use Rattle.scan.specs.Scan.{pick}
use Rattle.answers.specs.Order.{Fault, first, size_faults, served_faults, distance_faults, pair_faults, end_faults, request_faults, room_faults}
use Rattle.answers.specs.Told.{Told, tell, leaves}
use Rattle.answers.specs.declared.Refusal.{Refusal}
use Rattle.paths.specs.Mesh.{Mesh, width}
use Rattle.paths.specs.Ways.{distance}
use Rattle.paths.specs.Bundles.{longer}
use Rattle.requests.specs.Facts as facts
use Rattle.mesh.specs.Kinds.{Kind}

-- ---- what may stand against a size, a pair, a request: the faults of each routine, in its order

-- 1
abbrev pub size_faults_in : (k : Kind) (n : ℕ) → List Fault
size_faults_in k n = size_faults (not (k.known n))

-- 1, 52: of a routine that serves only kinds that are planned
abbrev pub served_faults_in : (k : Kind) (n : ℕ) → List Fault
served_faults_in k n = size_faults_in k n ++ served_faults (not k.planned)

-- 1, 2, 5, and 8 where there is no room
abbrev pub pair_faults_in : (k : Kind) (n s t : ℕ) (room : Bool) → List Fault
pair_faults_in k n s t room = size_faults_in k n ++ pair_faults (k.mesh n).relays s t ++ room_faults room

-- 1, 52, 9, 2, 5
abbrev pub distance_faults_in : (k : Kind) (n s t : ℕ) → List Fault
distance_faults_in k n s t = served_faults_in k n ++ distance_faults (k.undistanced n) ++ pair_faults (k.mesh n).relays s t

-- 1, 52, 2, 5, 6, and 8 where there is no room
abbrev pub bundle_faults_in : (k : Kind) (n s t : ℕ) (room : Bool) → List Fault
bundle_faults_in k n s t room = served_faults_in k n ++ end_faults (k.mesh n).relays s t ++ room_faults room

-- 1 to 7, and 8 where there is no room
abbrev pub request_faults_in : (k : Kind) (n s : ℕ) (targets : List ℕ) (room : Bool) → List Fault
request_faults_in k n s targets room = size_faults_in k n ++ request_faults (k.mesh n).relays (k.mesh n).links s targets ++ room_faults room

-- 1, 52, 2 to 7, and 8 where there is no room
abbrev pub planned_faults_in : (k : Kind) (n s : ℕ) (targets : List ℕ) (room : Bool) → List Fault
planned_faults_in k n s targets room = served_faults_in k n ++ request_faults (k.mesh n).relays (k.mesh n).links s targets ++ room_faults room

abbrev pub size_against : (k : Kind) (n : ℕ) → Option Refusal
size_against k n = first (size_faults_in k n)

abbrev pub pair_against : (k : Kind) (n s t : ℕ) (room : Bool) → Option Refusal
pair_against k n s t room = first (pair_faults_in k n s t room)

abbrev pub request_against : (k : Kind) (n s : ℕ) (targets : List ℕ) (room : Bool) → Option Refusal
request_against k n s targets room = first (request_faults_in k n s targets room)

abbrev pub planned_against : (k : Kind) (n s : ℕ) (targets : List ℕ) (room : Bool) → Option Refusal
planned_against k n s targets room = first (planned_faults_in k n s targets room)

abbrev pub bundle_against : (k : Kind) (n s t : ℕ) (room : Bool) → Option Refusal
bundle_against k n s t room = first (bundle_faults_in k n s t room)

-- fewer places than k paths take, or fewer counts than k
abbrev pub short : (m : Mesh) (k places counts : ℕ) → Bool
short m k places counts = pick (ltb places (k * width m)) true (ltb counts k)

-- the same of a bundle: a path for each link, of a place more
abbrev pub bundle_short : (m : Mesh) (places counts : ℕ) → Bool
bundle_short m = short (longer m) m.links

-- ---- what is told

-- a fact of a size, as `requests` tells it
abbrev pub fact_told : (k : Kind) (n : ℕ) (fact : ℕ) → Told ℕ
fact_told k n fact = facts.fact_told (k.known n) fact

abbrev pub linked_told : (k : Kind) (n s t : ℕ) → Told Bool
linked_told k n s t = tell (pair_against k n s t false) false ((k.mesh n).linked s t)

abbrev pub next_told : (k : Kind) (n s t : ℕ) → Told ℕ
next_told k n s t = tell (pair_against k n s t false) 0 (k.next n s t)

-- 52 and 9 after 1; the fewest links between two relays
abbrev pub distance_told : (k : Kind) (n s t : ℕ) → Told ℕ
distance_told k n s t = tell (first (distance_faults_in k n s t)) 0 (distance (k.mesh n) s t)

-- what stands against a route into so many places: they are to be one more than its hops
abbrev pub route_against : (k : Kind) (n s t places : ℕ) → Option Refusal
route_against k n s t places = pair_against k n s t (leb places (k.hops n s t))

abbrev pub route_told : (k : Kind) (n s t : ℕ) (out : List ℕ) → Told ℕ
route_told k n s t out = tell (route_against k n s t (length out)) 0 (k.hops n s t)

-- the route at the front of what was there
abbrev pub route_leaves : (k : Kind) (n s t : ℕ) (out : List ℕ) → List ℕ
route_leaves k n s t out = leaves (route_against k n s t (length out)) out (k.route n s t ++ drop (k.hops n s t + 1) out)
