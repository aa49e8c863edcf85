-- `two_choose::firsts` meets its contract. Assumes nothing.
use Rattle.std.specs.Int.Count.{ones}
use Rattle.cube_math.specs.Masks.{at}
use Rattle.two_math.specs.Loops.{Classing}
use Rattle.two_choose.proofs.firsts.Given as goal

abbrev pub invariant-loop-todo : goal.invariant-loop-todo
invariant-loop-todo l = Classing (at l.blocks) l.set l.todo l.r

abbrev pub decreases-loop-todo : goal.decreases-loop-todo
decreases-loop-todo l = ones l.todo
