use Rattle.std.proofs.Common.{arith}
use Rattle.two_write.specs.Blocks.{base_fits}
use Rattle.two_write.specs.Slots.{slotting_more, slotting_done}
use Rattle.two_write.proofs.write_slots.Goals as goal

pub overflow_add-out : goal.overflow_add-out
overflow_add-out c =
    omega (arith, base_fits c.requires.0 c.requires.1, c.base-first.ensures, c.requires.2 c.loop-i.i c.loop-i-test.true)

pub loop-i-preserved : goal.loop-i-preserved
loop-i-preserved c = slotting_more c.loop-i.invariant c.loop-i-test.true

pub returns : goal.returns
returns c = slotting_done _ _ c.base-first.ensures c.loop-i.invariant c.loop-i-test.false
