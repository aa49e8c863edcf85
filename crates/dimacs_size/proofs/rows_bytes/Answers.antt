use Rattle.std.proofs.Common.{arith}
use Rattle.dimacs.specs.Pieces.{sum-start, sum_more}
use Rattle.dimacs_size.specs.Sizes.{rowed, rows_small, rows_all, row-few}
use Rattle.dimacs_size.proofs.rows_bytes.Goals as goal

pub loop-u-init : goal.loop-u-init
loop-u-init c = sum-start _ _

pub row_bytes-sum-requires : goal.row_bytes-sum-requires
row_bytes-sum-requires c = rowed c.requires c.loop-u-test.true

pub overflow_add-sum : goal.overflow_add-sum
overflow_add-sum c = omega (arith, rows_small c.requires c.loop-u.invariant, row-few c.requires c.loop-u-test.true c.row_bytes-sum.ensures)

pub loop-u-preserved : goal.loop-u-preserved
loop-u-preserved c = sum_more _ c.loop-u.invariant c.loop-u-test.true c.row_bytes-sum.ensures

pub returns : goal.returns
returns c = rows_all c.requires c.loop-u.invariant (omega arith)
