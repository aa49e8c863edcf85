use Rattle.std.proofs.Common.{refl, arith}
use Rattle.around_search.specs.Room.{cleared_none, cleared_more, cleared_all}
use Rattle.around_search.proofs.queue.clear.Goals as goal

pub fill-requires : goal.fill-requires
fill-requires c = omega (arith, c.requires)

pub loop-x-init : goal.loop-x-init
loop-x-init c = let a = c.args in (omega (arith, c.fill.auto.list, c.requires), cleared_none a.relays a.stopped.now a.room.now _ c.fill.ensures c.requires)

pub stop-requires : goal.stop-requires
stop-requires c = c.loop-x.invariant.0

pub loop-x-preserved : goal.loop-x-preserved
loop-x-preserved c = let v = c.loop-x.invariant in (omega (arith, v.0, c.stop.ensures.long), cleared_more v.1 refl c.stop.ensures)

pub returns : goal.returns
returns c = cleared_all (omega arith) c.fill.auto.list c.loop-x.invariant.1
