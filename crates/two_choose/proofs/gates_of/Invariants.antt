-- `two_choose::gates_of` meets its contract. Assumes nothing.
use Rattle.std.specs.Int.Count.{ones}
use Rattle.two_choose.specs.Choice.{Gating}
use Rattle.two_choose.proofs.gates_of.Given as goal

abbrev pub invariant-loop-todo : goal.invariant-loop-todo
invariant-loop-todo l = Gating l.home.order l.home.block l.targets.count l.targets.blocks l.targets.slots l.gated l.done.slots l.done.gated l.todo

abbrev pub decreases-loop-todo : goal.decreases-loop-todo
decreases-loop-todo l = ones l.todo
