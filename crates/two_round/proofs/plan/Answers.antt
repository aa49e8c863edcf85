use Rattle.std.proofs.Common.{arith}
use Rattle.two_round.specs.Trip.{trip_asked, trip_search}
use Rattle.two_round.specs.Going.{going_none, going_more, going_done}
use Rattle.two_round.proofs.plan.Goals as goal

pub plan_rows-requires : goal.plan_rows-requires
plan_rows-requires c = trip_asked c.requires c.slots_of-to.ensures _ _ c.block_of-s0.ensures c.slot_of-p0.ensures _ c.power-size.ensures

pub find-cut-requires : goal.find-cut-requires
find-cut-requires c = trip_search c.requires c.slots_of-to.ensures _ _ c.block_of-s0.ensures c.slot_of-p0.ensures _ _ c.power-size.ensures c.plan_rows.ensures

pub loop-j-init : goal.loop-j-init
loop-j-init c = going_none _ c.requires c.slots_of-to.ensures c.block_of-s0.ensures c.slot_of-p0.ensures c.power-size.ensures c.plan_rows.ensures c.find-cut.ensures

pub loop-j-preserved : goal.loop-j-preserved
loop-j-preserved c = going_more c.loop-j.invariant (omega (arith, c.requires.all)) c.write_path.ensures

pub returns : goal.returns
returns c = going_done c.loop-j.invariant (omega (arith, c.requires.all))
