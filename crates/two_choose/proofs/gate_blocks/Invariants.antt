-- `two_choose::gate_blocks` meets its contract. Assumes nothing.
use Rattle.two_choose.specs.Doors.{Blocked}
use Rattle.two_choose.proofs.gate_blocks.Given as goal

abbrev pub invariant-loop-j : goal.invariant-loop-j
invariant-loop-j l = Blocked l.blocks l.gates l.j l.r
