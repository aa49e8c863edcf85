-- `two_parts::parts::block_of` meets its contract. Assumes nothing.
use Rattle.std.proofs.Common.{ℕ, ◌/◌, ap}
use Rattle.two_parts.proofs.parts.block_of.Goals as goal

pub returns : goal.returns
returns c = ap (λ (k : ℕ). c.args.relay / k) c.slots_in.ensures
