-- `two_general::dimensions` meets its contract. Assumes nothing.
use Rattle.std.proofs.Common.{arith, pow_pos}
use Rattle.two_general.proofs.dimensions.Goals as goal

pub overflow_sub-result : goal.overflow_sub-result
overflow_sub-result c = omega (arith, c.power.ensures, pow_pos c.args.n)
