-- `two_parts::views::seen_from` meets its contract. Assumes nothing.
use Rattle.std.proofs.Common.{ℕ, ◌<◌, ◌≡◌, sym, ap, ap₂, ◌∙◌, subst}
use Rattle.two_parts.specs.Two.{slots, blocks, relay, block_of, slot_of}
use Rattle.two_parts.specs.Seen.{seen_block, seen_slot, seen}
use Rattle.two_parts.specs.Moves.{seen_block-lt, seen_slot-lt}
use Rattle.two_parts.specs.Parts.{known_bounds, block-below, slot-below}
use Rattle.two_parts.proofs.views.seen_from.Goals as goal

pub slot_of-b-requires : goal.slot_of-b-requires
slot_of-b-requires c = (known_bounds c.args.order.0 c.requires.order).1

pub block_of-requires : goal.block_of-requires
block_of-requires c = (known_bounds c.args.order.0 c.requires.order).1

pub block_of-requires-2 : goal.block_of-requires-2
block_of-requires-2 c = (known_bounds c.args.order.0 c.requires.order).1

pub seen_block-requires : goal.seen_block-requires
seen_block-requires c =
    let m = c.args.order.0 in
    record {
      order = (known_bounds m c.requires.order).1;
      block = subst (λ (x : ℕ). x < blocks m) (sym c.block_of.ensures) (block-below m c.args.s c.requires.source);
      slot = subst (λ (x : ℕ). x < slots m) (sym c.slot_of-b.ensures) (slot-below m c.args.s);
    }

pub slot_of-requires : goal.slot_of-requires
slot_of-requires c = (known_bounds c.args.order.0 c.requires.order).1

pub relay_of-requires : goal.relay_of-requires
relay_of-requires c =
    let a = c.args in
    let m = a.order.0 in
    let ha = block-below m a.s c.requires.source in
    let hb = slot-below m a.s in
    -- the block and the slot as they are seen
    let block_is : c.seen_block.result.0 ≡ seen_block m (block_of m a.s) (slot_of m a.s) (block_of m a.r) =
    c.seen_block.ensures
    ∙ ap₂ (λ (x y : ℕ). seen_block m x y c.block_of-2.result.0) c.block_of.ensures c.slot_of-b.ensures
    ∙ ap (seen_block m (block_of m a.s) (slot_of m a.s)) c.block_of-2.ensures in
    let slot_is : c.seen_slot.result.0 ≡ seen_slot (slot_of m a.s) (slot_of m a.r) = c.seen_slot.ensures ∙ ap₂ seen_slot c.slot_of-b.ensures c.slot_of.ensures in
    record {
      order = (known_bounds m c.requires.order).1;
      block = subst (λ (x : ℕ). x < blocks m) (sym block_is) (seen_block-lt m (block_of m a.s) (slot_of m a.s) ha hb (block_of m a.r));
      slot = subst (λ (x : ℕ). x < slots m) (sym slot_is) (seen_slot-lt m (block_of m a.s) (slot_of m a.s) ha hb (slot_of m a.r) (slot-below m a.r));
    }

pub returns : goal.returns
unfolding seen
returns c =
    let a = c.args in
    let m = a.order.0 in
    let block_is : c.seen_block.result.0 ≡ seen_block m (block_of m a.s) (slot_of m a.s) (block_of m a.r) =
    c.seen_block.ensures
    ∙ ap₂ (λ (x y : ℕ). seen_block m x y c.block_of-2.result.0) c.block_of.ensures c.slot_of-b.ensures
    ∙ ap (seen_block m (block_of m a.s) (slot_of m a.s)) c.block_of-2.ensures in
    let slot_is : c.seen_slot.result.0 ≡ seen_slot (slot_of m a.s) (slot_of m a.r) = c.seen_slot.ensures ∙ ap₂ seen_slot c.slot_of-b.ensures c.slot_of.ensures in
    c.relay_of.ensures ∙ ap₂ (relay m) block_is slot_is
