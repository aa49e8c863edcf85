-- `two_general::slot_of` meets its contract: a slot of order 5 at most is below 32. Assumes nothing.
use Rattle.std.proofs.Common.{arith}
use Rattle.two_parts.specs.Parts.{slot-below, slots-few}
use Rattle.two_general.proofs.slot_of.Goals as goal

pub overflow_cast-result : goal.overflow_cast-result
overflow_cast-result c = record { fits = omega (arith, c.slot_of.ensures, slot-below c.args.order.0 c.args.relay, slots-few c.args.order.0 c.requires) }
