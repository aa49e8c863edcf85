-- `meta_parts::sizes::links_in` meets its contract. Assumes nothing.
use Rattle.std.proofs.Common.{refl, rules, arith}
use Rattle.meta_parts.specs.Sizes.{known-sized, links-few}
use Rattle.meta_parts.proofs.sizes.links_in.Goals as goal

pub overflow_add-result : goal.overflow_add-result
overflow_add-result c =
    omega (arith, c.part_bits.ensures, c.class_bits.ensures, links-few (known-sized c.args.size.0 refl c.requires))
