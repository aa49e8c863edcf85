-- `marks::scatter` meets its contract. Assumes nothing.
use Rattle.std.proofs.Common.{refl}
use Rattle.marks.specs.Marks.{scatter}
use Rattle.marks.proofs.scatter.Goals as goal

pub returns : goal.returns
unfolding scatter
returns c = refl
