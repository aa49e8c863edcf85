-- `two_choose::shut_doors` meets its contract. Assumes nothing.
use Rattle.two_math.specs.Shut.{Opening}
use Rattle.two_choose.proofs.shut_doors.Given as goal

abbrev pub invariant-loop-i : goal.invariant-loop-i
invariant-loop-i l = Opening l.doors l.p0 l.keep l.i l.shut
