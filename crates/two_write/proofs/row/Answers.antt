-- `two_write::row` meets its contract. Assumes nothing.
use Rattle.std.proofs.Common.{arith, refl}
use Rattle.two_write.specs.Row.{hops-length, row_is}
use Rattle.two_write.proofs.row.Goals as goal

pub overflow_sub-result : goal.overflow_sub-result
overflow_sub-result c = omega (arith, hops-length c.args.grid.now c.args.j)

pub returns : goal.returns
returns c = row_is _ c.args.j _ _ _ c.requires.1 refl refl (omega arith) (omega arith)
