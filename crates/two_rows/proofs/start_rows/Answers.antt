use Rattle.two_rows.specs.Rows.{started_more, fewer}
use Rattle.two_rows.proofs.start_rows.Goals as goal

pub loop-todo-smaller : goal.loop-todo-smaller
loop-todo-smaller c = fewer _ _ _ c.lowest-j.ensures.set c.flip-todo.ensures

pub loop-todo-preserved : goal.loop-todo-preserved
loop-todo-preserved c = started_more _ _ _ c.loop-todo.invariant c.lowest-j.ensures.set c.start.ensures c.start.auto.grid c.flip-todo.ensures
