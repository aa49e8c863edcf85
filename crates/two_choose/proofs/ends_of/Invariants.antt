-- `two_choose::ends_of` meets its contract. Assumes nothing.
use Rattle.two_choose.specs.Doors.{Ended}
use Rattle.two_choose.proofs.ends_of.Given as goal

abbrev pub invariant-loop-j : goal.invariant-loop-j
invariant-loop-j l = Ended l.blocks l.behind l.gated l.j l.r
