-- `two_ring::write` meets its contract: the invariant is `Writing`, what is left to write. Assumes nothing.
use Rattle.two_ring.specs.Sides.{Writing}
use Rattle.two_ring.proofs.write.Given as goal

abbrev pub invariant-loop-i : goal.invariant-loop-i
invariant-loop-i l = Writing l.spot l.step l.n l.at l.initial.out l.out l.here l.i
