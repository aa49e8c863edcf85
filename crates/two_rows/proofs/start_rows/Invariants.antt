-- `two_rows::start_rows` meets its contract: the invariant is `Started`. Assumes nothing.
use Rattle.std.specs.Int.Count.{ones}
use Rattle.two_rows.specs.Rows.{Started}
use Rattle.two_rows.proofs.start_rows.Given as goal

abbrev pub invariant-loop-todo : goal.invariant-loop-todo
invariant-loop-todo l = Started l.set l.to l.todo l.grid

abbrev pub decreases-loop-todo : goal.decreases-loop-todo
decreases-loop-todo l = ones l.todo
