-- The measure is what is left of the numbers.
use Rattle.std.proofs.Common.{◌-◌}
use Rattle.mesh_cases.proofs.cases.Given as goal

abbrev pub decreases-loop-at : goal.decreases-loop-at
decreases-loop-at g l = l.end - l.at
