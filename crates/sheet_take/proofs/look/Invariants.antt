-- `sheet_take::look` meets its contract: the invariant is that the paths before path i are looked through. Assumes nothing.
use Rattle.sheet_take.specs.Looking.{Looking}
use Rattle.sheet_take.proofs.look.Given as goal

abbrev pub invariant-loop-i : goal.invariant-loop-i
invariant-loop-i l = Looking l.version l.longest l.bytes l.k l.at l.i
