-- `two_round::slots_of` meets its contract: the invariant is `Reading`. Assumes nothing.
use Rattle.two_round.specs.Trip.{Reading}
use Rattle.two_round.proofs.slots_of.Given as goal

abbrev pub invariant-loop-i : goal.invariant-loop-i
invariant-loop-i l = Reading l.order.0 l.targets l.to l.i
