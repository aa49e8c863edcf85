-- `region::code` meets its contract: number times 256 and place. Assumes nothing.
use Rattle.std.proofs.Common.{arith}
use Rattle.answers.specs.Laws.{number-few}
use Rattle.region.proofs.code.Goals as goal

pub overflow_mul-result : goal.overflow_mul-result
overflow_mul-result c = omega (arith, number-few c.args.why, c.number.ensures)

pub overflow_add-result : goal.overflow_add-result
overflow_add-result c = omega (arith, number-few c.args.why, c.number.ensures, c.place.ensures, c.requires)

pub returns : goal.returns
returns c = omega (arith, c.number.ensures, c.place.ensures)
