-- `two_parts::parts::relay_of` meets its contract. Assumes nothing.
use Rattle.std.proofs.Common.{ℕ, ◌+◌, ◌*◌, ap, arith}
use Rattle.two_parts.specs.Parts.{relay-few}
use Rattle.two_parts.proofs.parts.relay_of.Goals as goal

pub slots_in-requires : goal.slots_in-requires
slots_in-requires c = c.requires.order

pub overflow_mul-result : goal.overflow_mul-result
overflow_mul-result c =
    let a = c.args in
    omega (arith, ap (λ (k : ℕ). a.block.0 * k) c.slots_in.ensures, relay-few a.order.0 c.requires.order a.block.0 a.slot.0 c.requires.block c.requires.slot)

pub overflow_add-result : goal.overflow_add-result
overflow_add-result c =
    let a = c.args in
    omega (arith, ap (λ (k : ℕ). a.block.0 * k) c.slots_in.ensures, relay-few a.order.0 c.requires.order a.block.0 a.slot.0 c.requires.block c.requires.slot)

pub returns : goal.returns
returns c =
    let a = c.args in
    ap (λ (k : ℕ). a.block.0 * k + a.slot.0) c.slots_in.ensures
