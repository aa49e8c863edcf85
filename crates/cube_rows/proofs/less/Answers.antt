-- `cube_rows::less` meets its contract. Assumes nothing.
use Rattle.std.proofs.Common.{refl}
use Rattle.cube_math.specs.Masks.{less}
use Rattle.cube_rows.proofs.less.Goals as goal

pub returns : goal.returns
unfolding less
returns c = refl
