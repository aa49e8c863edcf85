-- `meta_parts::sizes::class_bits` meets its contract. Assumes nothing.
use Rattle.std.proofs.Common.{refl}
use Rattle.meta_parts.specs.Meta.{class_bits}
use Rattle.meta_parts.proofs.sizes.class_bits.Goals as goal

pub returns : goal.returns
unfolding class_bits
returns c = refl
