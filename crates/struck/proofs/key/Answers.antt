-- `struck::key` meets its contract. Assumes nothing.
use Rattle.std.proofs.Common.{refl}
use Rattle.struck.specs.Struck.{key}
use Rattle.struck.proofs.key.Goals as goal

pub returns : goal.returns
unfolding key
returns c = refl
