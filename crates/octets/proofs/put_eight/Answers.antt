-- `octets::put_eight` meets its contract. Assumes nothing.
use Rattle.std.proofs.Common.{◌∙◌}
use Rattle.octets.specs.Turns.{put_eight}
use Rattle.octets.proofs.put_eight.Goals as goal

pub returns : goal.returns
returns c = put_eight c.args.out.now c.args.at c.args.value (c.copy_from_slice.ensures.after ∙ c.to_be_bytes.ensures) c.requires
