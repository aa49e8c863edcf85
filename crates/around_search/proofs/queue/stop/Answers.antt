use Rattle.std.proofs.Common.{arith}
use Rattle.around_search.specs.Room.{marked, unmarked}
use Rattle.around_search.proofs.queue.stop.Goals as goal

pub bounds-room-x : goal.bounds-room-x
bounds-room-x c = omega (arith, c.if-x-relays.true, c.requires)

pub returns-then-x-relays : goal.returns-then-x-relays
returns-then-x-relays c = let a = c.args in marked a.relays a.x a.room.now c.requires c.if-x-relays.true

pub returns-else-x-relays : goal.returns-else-x-relays
returns-else-x-relays c = let a = c.args in unmarked a.relays a.x a.room.now (omega (arith, c.if-x-relays.false))
