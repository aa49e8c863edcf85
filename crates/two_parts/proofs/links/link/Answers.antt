-- `two_parts::links::link` meets its contract. Assumes nothing.
use Rattle.std.proofs.Common.{ℕ, ◌∙◌, ap₂, arith}
use Rattle.two_parts.specs.Two.{block_of, slot_of, joined, linked}
use Rattle.two_parts.specs.Parts.{slot-below, slots-few}
use Rattle.two_parts.proofs.links.link.Goals as goal

pub block_of-requires : goal.block_of-requires
block_of-requires c = c.requires

pub slot_of-requires : goal.slot_of-requires
slot_of-requires c = c.requires

pub block_of-requires-2 : goal.block_of-requires-2
block_of-requires-2 c = c.requires

pub slot_of-requires-2 : goal.slot_of-requires-2
slot_of-requires-2 c = c.requires

pub joined-requires : goal.joined-requires
joined-requires c =
    let m = c.args.order.0 in
    omega (arith, c.slot_of.ensures, slot-below m c.args.u, slots-few m c.requires)

pub returns : goal.returns
unfolding linked
returns c =
    let a = c.args in
    let m = a.order.0 in
    c.joined.ensures
    ∙ ap₂ (λ (x y : ℕ). joined x y c.block_of-2.result.0 c.slot_of-2.result.0) c.block_of.ensures c.slot_of.ensures
    ∙ ap₂ (joined (block_of m a.u) (slot_of m a.u)) c.block_of-2.ensures c.slot_of-2.ensures
