-- `judge_rows::relay` meets its contract. Assumes nothing.
use Rattle.std.proofs.Common.{refl}
use Rattle.paths.specs.Fan.{relay}
use Rattle.judge_rows.proofs.relay.Goals as goal

pub returns : goal.returns
unfolding relay
returns c = refl
