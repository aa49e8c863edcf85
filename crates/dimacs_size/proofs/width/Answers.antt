use Rattle.std.proofs.Common.{arith}
use native.Mathlib.Nat.{div-lt_self}
use Rattle.dimacs_size.specs.Sizes.{wide_start, wide_few, wide_more, wide_all}
use Rattle.dimacs_size.proofs.width.Goals as goal

pub loop-rest-init : goal.loop-rest-init
loop-rest-init c = wide_start _ c.ranges.n.fits

pub overflow_add-k : goal.overflow_add-k
overflow_add-k c = omega (arith, wide_few c.loop-rest.invariant)

pub loop-rest-smaller : goal.loop-rest-smaller
loop-rest-smaller c = div-lt_self {n = c.loop-rest.rest} {k = 10} (omega arith) (omega arith)

pub loop-rest-preserved : goal.loop-rest-preserved
loop-rest-preserved c = wide_more c.loop-rest.invariant c.loop-rest-test.true

pub returns : goal.returns
returns c = wide_all c.loop-rest.invariant c.loop-rest-test.false
