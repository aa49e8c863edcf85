-- `two_takeover::tail_of` meets its contract: the invariant is `Tailing`. Assumes nothing.
use Rattle.cube_math.specs.Masks.{at}
use Rattle.cube_math.specs.Single.{rank}
use Rattle.two_takeover.specs.Tail.{Tailing}
use Rattle.two_takeover.proofs.tail_of.Given as goal

abbrev pub invariant-loop-who : goal.invariant-loop-who
invariant-loop-who l =
    Tailing l.m l.targets.count (at l.targets.blocks) (at l.targets.slots) (at l.gates.slots) l.gates.gated l.b l.enter l.to l.slots l.len l.here

abbrev pub decreases-loop-who : goal.decreases-loop-who
decreases-loop-who l = rank l.to l.here
