use Rattle.std.proofs.Common.{arith}
use Rattle.sheet.specs.Lengths.{head_bounds}
use Rattle.sheet_put.specs.Total.{summed_starts, taken_small, taken_more, taken_ends}
use Rattle.sheet_put.proofs.bytes_of.Goals as goal

pub loop-h-init : goal.loop-h-init
loop-h-init c = summed_starts c.requires

pub overflow_mul-n : goal.overflow_mul-n
overflow_mul-n c = omega (arith, (taken_small c.loop-h.invariant c.loop-h-test.true).1)

pub overflow_add-n : goal.overflow_add-n
overflow_add-n c = omega (arith, (taken_small c.loop-h.invariant c.loop-h-test.true).1, c.head_bytes-head.ensures, (head_bounds c.args.version).1)

pub overflow_add-n-in-loop-h : goal.overflow_add-n-in-loop-h
overflow_add-n-in-loop-h c = let small = taken_small c.loop-h.invariant c.loop-h-test.true in omega (arith, small.0, small.1, c.head_bytes-head.ensures, (head_bounds c.args.version).1)

pub loop-h-preserved : goal.loop-h-preserved
loop-h-preserved c = taken_more c.loop-h.invariant c.loop-h-test.true c.head_bytes-head.ensures

pub returns : goal.returns
returns c = taken_ends c.loop-h.invariant c.loop-h-test.false
