-- `bits::gray` meets its contract. Assumes nothing.
use Rattle.std.proofs.Common.{refl}
use Rattle.bits.specs.Gray.{gray}
use Rattle.bits.proofs.gray.Goals as goal

pub returns : goal.returns
unfolding gray
returns c = refl
