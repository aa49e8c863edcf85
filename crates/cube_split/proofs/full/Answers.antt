-- `cube_split::full` meets its contract. Assumes nothing.
use Rattle.std.proofs.Common.{arith, pow_pos}
use Rattle.cube_split.proofs.full.Goals as goal

pub overflow_sub-result : goal.overflow_sub-result
overflow_sub-result c = omega (arith, pow_pos c.args.n)
