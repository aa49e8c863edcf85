-- What the routines of a metacube tell: refusals 1, 2, 5, 8 in this order, or the value.
use Rattle.std.specs.Prelude.{ℕ, ◌+◌, Bool, false, List, ◌++◌, leb, length, drop}
use Rattle.std.proofs.Math.Option.{Option}
use Rattle.answers.specs.Told.{Told, tell, leaves}
use Rattle.answers.specs.Order.{Fault, first, pair_faults, room_faults}
use Rattle.answers.specs.declared.Refusal.{Refusal}
use Rattle.meta_parts.specs.Says.{size_faults_in}
use Rattle.meta_parts.specs.Meta.{class_bits, part_bits, metacube}
use Rattle.meta.specs.Next as walk

-- the next hop, the hops and the route in the metacube of a size
abbrev pub next : (n u t : ℕ) → ℕ
next n u t = walk.next (class_bits n) (part_bits n) u t

abbrev pub hops : (n s t : ℕ) → ℕ
hops n s t = walk.hops (class_bits n) (part_bits n) s t

abbrev pub route : (n s t : ℕ) → List ℕ
route n s t = walk.route (class_bits n) (part_bits n) s t

-- what may stand against a source and a target: 1, 2, 5, and 8 where there is no room
abbrev pub pair_faults_in : (n s t : ℕ) (room : Bool) → List Fault
pair_faults_in n s t room = size_faults_in n ++ pair_faults (metacube n).relays s t ++ room_faults room

abbrev pub pair_against : (n s t : ℕ) (room : Bool) → Option Refusal
pair_against n s t room = first (pair_faults_in n s t room)

-- what stands against a route into so many places: they are to be one more than its hops
abbrev pub route_against : (n s t places : ℕ) → Option Refusal
route_against n s t places = pair_against n s t (leb places (hops n s t))

abbrev pub linked_told : (n s t : ℕ) → Told Bool
linked_told n s t = tell (pair_against n s t false) false ((metacube n).linked s t)

abbrev pub next_told : (n s t : ℕ) → Told ℕ
next_told n s t = tell (pair_against n s t false) 0 (next n s t)

abbrev pub route_told : (n s t : ℕ) (out : List ℕ) → Told ℕ
route_told n s t out = tell (route_against n s t (length out)) 0 (hops n s t)

-- the route at the front of what was there
abbrev pub routed : (n s t : ℕ) (out : List ℕ) → List ℕ
routed n s t out = route n s t ++ drop (hops n s t + 1) out

abbrev pub route_leaves : (n s t : ℕ) (out : List ℕ) → List ℕ
route_leaves n s t out = leaves (route_against n s t (length out)) out (routed n s t out)
