use Rattle.std.proofs.Common.{arith}
use Rattle.two_write.specs.Walked.{going_more, going_less, going_done, going_room, next-below}
use Rattle.two_write.proofs.write_walk.Goals as goal

-- src/lib.rt:22:5
pub overflow_add-out : goal.overflow_add-out
overflow_add-out c = omega (arith, next-below _ c.loop-here.invariant c.requires.to c.next-here.ensures, c.requires.fits)

-- src/lib.rt:24:9
pub offset_bounds-out-i : goal.offset_bounds-out-i
offset_bounds-out-i c = omega (arith, going_room c.loop-here.invariant c.requires c.loop-here-test.true)

-- src/lib.rt:24:9
pub bounds-out-i : goal.bounds-out-i
bounds-out-i c = going_room c.loop-here.invariant c.requires c.loop-here-test.true

-- src/lib.rt:25:9
pub overflow_add-i : goal.overflow_add-i
overflow_add-i c = omega (arith, going_room c.loop-here.invariant c.requires c.loop-here-test.true)

-- src/lib.rt:22:5
pub loop-here-smaller : goal.loop-here-smaller
loop-here-smaller c = going_less _ c.loop-here.invariant c.next-here.ensures

-- src/lib.rt:22:5
pub loop-here-preserved : goal.loop-here-preserved
loop-here-preserved c = going_more _ c.loop-here.invariant c.requires.to c.next-here.ensures

-- src/lib.rt:16:1
pub returns : goal.returns
returns c = going_done c.loop-here.invariant c.requires.from c.requires.to c.loop-here-test.false
