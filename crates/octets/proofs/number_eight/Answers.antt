-- `octets::number_eight` meets its contract. Assumes nothing.
use Rattle.std.proofs.Common.{◌∙◌}
use Rattle.octets.specs.Turns.{number_eight}
use Rattle.octets.proofs.number_eight.Goals as goal

pub returns : goal.returns
returns c = c.from_be_bytes.ensures ∙ number_eight c.args.bytes.now c.args.at
