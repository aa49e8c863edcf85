-- `cube::differ_in_one` meets its contract. Assumes nothing.
use Rattle.std.proofs.Common.{refl}
use Rattle.cube.specs.Cube.{linked}
use Rattle.cube.proofs.differ_in_one.Goals as goal

pub returns : goal.returns
unfolding linked
returns c = refl
