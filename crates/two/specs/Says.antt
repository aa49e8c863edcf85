-- What the routines of the two-level mesh tell: refusals 1, 2, 5, 8 in this order, or the value. A routine that takes a block and a slot tells what
-- the one that takes a relay's number tells of `named`: a part out of range is a relay out of range.
use Rattle.std.specs.Prelude.{ℕ, ◌+◌, Bool, false, List, ◌++◌, Result, Ok, Err, leb, length, drop}
use Rattle.std.proofs.Math.Option.{Option, none, some}
use Rattle.answers.specs.Told.{Told, tell, leaves}
use Rattle.answers.specs.Order.{Fault, first, pair_faults, room_faults}
use Rattle.answers.specs.declared.Refusal.{Refusal}
use Rattle.two_parts.specs.declared.parts.Block.{Block}
use Rattle.two_parts.specs.declared.parts.Slot.{Slot}
use Rattle.two_parts.specs.Says.{size_faults_in}
use Rattle.two_parts.specs.Two.{relays, block_of, slot_of, linked}
use Rattle.two.specs.Next.{next, hops, route}
use Rattle.two_parts.specs.Seen.{seen}

-- what may stand against a source and a target: 1, 2, 5, and 8 where there is no room
abbrev pub pair_faults_in : (m s t : ℕ) (room : Bool) → List Fault
pair_faults_in m s t room = size_faults_in m ++ pair_faults (relays m) s t ++ room_faults room

abbrev pub pair_against : (m s t : ℕ) (room : Bool) → Option Refusal
pair_against m s t room = first (pair_faults_in m s t room)

-- block and slot
abbrev pub place_told : Result (Block × Slot) Refusal → Told (ℕ × ℕ)
place_told (Ok place) = tell none (0, 0) (place.0.0, place.1.0)
place_told (Err why) = tell (some why) (0, 0) (0, 0)

-- of a relay alone: relay 0 as the other is never out of range
abbrev pub split_told : (m r : ℕ) → Told (ℕ × ℕ)
split_told m r = tell (pair_against m r 0 false) (0, 0) (block_of m r, slot_of m r)

abbrev pub number_told : (m r : ℕ) → Told ℕ
number_told m r = tell (pair_against m r 0 false) 0 r

abbrev pub linked_told : (m s t : ℕ) → Told Bool
linked_told m s t = tell (pair_against m s t false) false (linked m s t)

abbrev pub next_told : (m s t : ℕ) → Told ℕ
next_told m s t = tell (pair_against m s t false) 0 (next m s t)

abbrev pub seen_told : (m s t : ℕ) → Told ℕ
seen_told m s t = tell (pair_against m s t false) 0 (seen m s t)

-- the hops, where n places are lent
abbrev pub route_told : (m s t n : ℕ) → Told ℕ
route_told m s t n = tell (pair_against m s t (leb n (hops m s t))) 0 (hops m s t)

-- what the lent slice holds afterwards
abbrev pub route_leaves : (m s t : ℕ) (out : List ℕ) → List ℕ
route_leaves m s t out = leaves (pair_against m s t (leb (length out) (hops m s t))) out (route m s t ++ drop (hops m s t + 1) out)
