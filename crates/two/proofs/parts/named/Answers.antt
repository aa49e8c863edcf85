-- `two::parts::named` meets its contract: each way out by its tests. Assumes nothing.
use Rattle.std.proofs.Common.{sym, ◌∙◌}
use Rattle.two_parts.specs.Parts.{few, named-unknown, named-relay, named-block-out, named-slot-out}
use Rattle.two.proofs.parts.named.Goals as goal

pub returns-then-not-known : goal.returns-then-not-known
returns-then-not-known c =
    let a = c.args in
    sym (named-unknown a.order.0 a.block.0 a.slot.0 (sym c.known.ensures ∙ c.if-not-known.true))

pub blocks_in-requires : goal.blocks_in-requires
blocks_in-requires c = few c.args.order.0 c.known.ensures c.if-not-known.false

pub relays_in-requires : goal.relays_in-requires
relays_in-requires c = few c.args.order.0 c.known.ensures c.if-not-known.false

pub returns-then-blocks_in-block : goal.returns-then-blocks_in-block
returns-then-blocks_in-block c =
    let a = c.args in
    c.relays_in.ensures
    ∙ sym (named-block-out a.order.0 a.block.0 a.slot.0 (sym c.known.ensures ∙ c.if-not-known.false) (rw c.blocks_in.ensures at c.if-blocks_in-block.true))

pub slots_in-requires : goal.slots_in-requires
slots_in-requires c = few c.args.order.0 c.known.ensures c.if-not-known.false

pub relays_in-requires-then-slots_in-slot : goal.relays_in-requires-then-slots_in-slot
relays_in-requires-then-slots_in-slot c = few c.args.order.0 c.known.ensures c.if-not-known.false

pub returns-then-slots_in-slot : goal.returns-then-slots_in-slot
returns-then-slots_in-slot c =
    let a = c.args in
    c.relays_in-then-slots_in-slot.ensures
    ∙ sym (named-slot-out a.order.0 a.block.0 a.slot.0 (sym c.known.ensures ∙ c.if-not-known.false)
    (rw c.blocks_in.ensures at c.if-blocks_in-block.false) (rw c.slots_in.ensures at c.if-slots_in-slot.true))

pub relay_of-requires : goal.relay_of-requires
relay_of-requires c = record {
  order = few c.args.order.0 c.known.ensures c.if-not-known.false;
  block = rw c.blocks_in.ensures at c.if-blocks_in-block.false;
  slot = rw c.slots_in.ensures at c.if-slots_in-slot.false;
}

pub returns : goal.returns
returns c =
    let a = c.args in
    c.relay_of.ensures
    ∙ sym (named-relay a.order.0 a.block.0 a.slot.0 (sym c.known.ensures ∙ c.if-not-known.false)
    (rw c.blocks_in.ensures at c.if-blocks_in-block.false) (rw c.slots_in.ensures at c.if-slots_in-slot.false))
