use Rattle.cube.specs.Ways.{routed}
use Rattle.cube.proofs.SizeWays.short.Goals as goal

pub returns-clause-way : goal.returns-clause-way
returns-clause-way c = routed _ _ _ c.requires
