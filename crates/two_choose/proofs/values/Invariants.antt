-- `two_choose::values` meets its contract. Assumes nothing.
use Rattle.std.proofs.Common.{◌≡◌}
use Rattle.std.specs.Int.Count.{ones}
use Rattle.cube_math.specs.Masks.{at}
use Rattle.two_math.specs.Loops.{Using}
use Rattle.two_choose.proofs.values.Given as goal

abbrev pub invariant-loop-todo : goal.invariant-loop-todo
invariant-loop-todo l = Using (λ j a. at l.vals j ≡ a) l.set l.todo l.r

abbrev pub decreases-loop-todo : goal.decreases-loop-todo
decreases-loop-todo l = ones l.todo
