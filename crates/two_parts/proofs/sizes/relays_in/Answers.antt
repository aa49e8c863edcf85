-- `two_parts::sizes::relays_in` meets its contract. Assumes nothing.
use Rattle.std.proofs.Common.{ℕ, ◌+◌, ◌^◌, ap, ◌∙◌, arith}
use Rattle.two_parts.specs.Parts.{slots-few}
use Rattle.two_parts.proofs.sizes.relays_in.Goals as goal

pub overflow_add-slots_in : goal.overflow_add-slots_in
overflow_add-slots_in c = omega (arith, c.slots_in.ensures, slots-few c.args.order.0 c.requires, c.requires)

pub overflow_cast-slots_in : goal.overflow_cast-slots_in
overflow_cast-slots_in c = omega (arith, c.slots_in.ensures, slots-few c.args.order.0 c.requires, c.requires)

pub power-requires : goal.power-requires
power-requires c = omega (arith, c.slots_in.ensures, slots-few c.args.order.0 c.requires, c.requires)

pub returns : goal.returns
returns c =
    let m = c.args.order.0 in
    c.power.ensures ∙ ap (λ (k : ℕ). 2 ^ (k + m)) c.slots_in.ensures
