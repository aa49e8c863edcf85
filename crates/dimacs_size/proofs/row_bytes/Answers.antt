use Rattle.std.proofs.Common.{arith}
use Rattle.dimacs.specs.Pieces.{sum-start, sum_more}
use Rattle.dimacs.specs.Needs.{linking}
use Rattle.dimacs_size.specs.Sizes.{row_small, row-all, link-few}
use Rattle.dimacs_size.proofs.row_bytes.Goals as goal

pub loop-i-init : goal.loop-i-init
loop-i-init c = sum-start _ _

pub link_bytes-sum-requires : goal.link_bytes-sum-requires
link_bytes-sum-requires c = linking c.requires c.loop-i-test.true

pub overflow_add-sum : goal.overflow_add-sum
overflow_add-sum c = omega (arith, row_small c.requires c.loop-i.invariant, link-few c.requires c.loop-i-test.true c.link_bytes-sum.ensures)

pub loop-i-preserved : goal.loop-i-preserved
loop-i-preserved c = sum_more _ c.loop-i.invariant c.loop-i-test.true c.link_bytes-sum.ensures

pub returns : goal.returns
returns c = row-all c.requires c.loop-i.invariant (omega arith)
