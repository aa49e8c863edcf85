-- `meta_parts::sizes::part_bits` meets its contract. Assumes nothing.
use Rattle.std.proofs.Common.{refl}
use Rattle.meta_parts.specs.Meta.{part_bits}
use Rattle.meta_parts.proofs.sizes.part_bits.Goals as goal

pub returns : goal.returns
unfolding part_bits
returns c = refl
