-- `cube_split::plan` meets its contract. It calls itself for the far and for the near side, each with one dimension less: the measure is how many are
-- free. Assumes nothing.
use Rattle.std.specs.Int.Count.{ones}
use Rattle.cube_split.proofs.+plan.Given as goal

abbrev pub decreases-plan : goal.decreases-plan
decreases-plan l = ones l.start.free
