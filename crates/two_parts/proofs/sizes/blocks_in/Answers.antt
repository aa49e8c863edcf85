-- `two_parts::sizes::blocks_in` meets its contract. Assumes nothing.
use Rattle.std.proofs.Common.{ℕ, ◌^◌, ap, ◌∙◌, arith}
use Rattle.two_parts.specs.Parts.{slots-few}
use Rattle.two_parts.proofs.sizes.blocks_in.Goals as goal

pub overflow_cast-slots_in : goal.overflow_cast-slots_in
overflow_cast-slots_in c = omega (arith, c.slots_in.ensures, slots-few c.args.order.0 c.requires)

pub power-requires : goal.power-requires
power-requires c = omega (arith, c.slots_in.ensures, slots-few c.args.order.0 c.requires)

pub returns : goal.returns
returns c = c.power.ensures ∙ ap (λ (k : ℕ). 2 ^ k) c.slots_in.ensures
