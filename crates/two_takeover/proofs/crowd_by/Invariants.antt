-- `two_takeover::crowd_by` meets its contract. Assumes nothing.
use Rattle.std.specs.Int.Count.{ones}
use Rattle.two_takeover.specs.Over.{Crowding}
use Rattle.two_takeover.proofs.crowd_by.Given as goal

abbrev pub invariant-loop-todo : goal.invariant-loop-todo
invariant-loop-todo l = Crowding l.reps l.front l.grid l.todo

abbrev pub decreases-loop-todo : goal.decreases-loop-todo
decreases-loop-todo l = ones l.todo
