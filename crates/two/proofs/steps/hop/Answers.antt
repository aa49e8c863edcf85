-- `two::steps::hop` meets its contract. Assumes nothing.
use Rattle.std.proofs.Common.{ℕ, ◌/◌, ◌%◌, ◌^◌, ◌<◌, ◌≡◌, ◌∙◌, sym, ap, ap₂, subst, bit_xor}
use lib.Bits.{xor_shr, xor_lt}
use Rattle.two_parts.specs.Two.{slots, blocks, block_of, slot_of}
use Rattle.two_parts.specs.Parts.{known_bounds, block-below, slot-below}
use Rattle.two.specs.Next.{heading}
use Rattle.two.proofs.Rank.{heading-below}
use Rattle.two.specs.Turns.{aim, change, aim-heading}
use Rattle.two.proofs.Turns.{change-next}
use Rattle.two.proofs.steps.hop.Goals as goal

-- a relay's slot
slot : (m n r : ℕ) → n ≡ slots m → r % n ≡ slot_of m r
slot m n r e = ap (λ (n : ℕ). r % n) e

pub slots_in-slots-requires : goal.slots_in-slots-requires
slots_in-slots-requires c = (known_bounds c.args.order.0 c.requires.order).1

pub heading-h-requires : goal.heading-h-requires
heading-h-requires c =
    let m = c.args.order.0 in
    record {
      order = (known_bounds m c.requires.order).1;
      below = subst (λ (x : ℕ). x < blocks m) (sym ((let apart : bit_xor c.args.u c.args.t / c.slots_in-slots.result ≡ bit_xor (block_of c.args.order.0 c.args.u) (block_of c.args.order.0 c.args.t) = let a = c.args in ap (λ (n : ℕ). bit_xor a.u a.t / n) c.slots_in-slots.ensures ∙ xor_shr a.u a.t a.order.0 in apart))) (xor_lt (2 ^ m) (block_of m c.args.u) (block_of m c.args.t) (block-below m c.args.u c.requires.source) (block-below m c.args.t c.requires.target));
    }

pub change-requires : goal.change-requires
change-requires c =
    let a = c.args in
    let m = a.order.0 in
    record {
      order = (known_bounds m c.requires.order).1;
      from = subst (λ (x : ℕ). x < slots m) (sym (slot c.args.order.0 c.slots_in-slots.result a.u c.slots_in-slots.ensures)) (slot-below m a.u);
      to = subst (λ (x : ℕ). x < slots m) (sym ((let aimed-2 : c.heading-h.result.0 ≡ heading c.args.order.0 (block_of c.args.order.0 c.args.u) (block_of c.args.order.0 c.args.t) (slot_of c.args.order.0 c.args.t) = let a = c.args in
          let m = a.order.0 in
          c.heading-h.ensures ∙ ap₂ (aim m) ((let apart : bit_xor c.args.u c.args.t / c.slots_in-slots.result ≡ bit_xor (block_of c.args.order.0 c.args.u) (block_of c.args.order.0 c.args.t) = let a = c.args in ap (λ (n : ℕ). bit_xor a.u a.t / n) c.slots_in-slots.ensures ∙ xor_shr a.u a.t a.order.0 in apart)) (slot c.args.order.0 c.slots_in-slots.result a.t c.slots_in-slots.ensures) ∙ aim-heading m (block_of m a.u) (block_of m a.t) (slot_of m a.t) in aimed-2)))
          (heading-below m (block_of m a.u) (slot_of m a.u) (block_of m a.t) (slot_of m a.t) (block-below m a.u c.requires.source) (slot-below m a.u) (block-below m a.t c.requires.target) (slot-below m a.t));
    }

pub returns : goal.returns
returns c =
    let a = c.args in
    let m = a.order.0 in
    ap (bit_xor a.u)
    (c.change.ensures
    ∙ ap₂ (λ (x y : ℕ). change m x y c.heading-h.result.0) ((let apart : bit_xor c.args.u c.args.t / c.slots_in-slots.result ≡ bit_xor (block_of c.args.order.0 c.args.u) (block_of c.args.order.0 c.args.t) = let a = c.args in ap (λ (n : ℕ). bit_xor a.u a.t / n) c.slots_in-slots.ensures ∙ xor_shr a.u a.t a.order.0 in apart)) (slot c.args.order.0 c.slots_in-slots.result a.u c.slots_in-slots.ensures)
    ∙ ap (change m (bit_xor (block_of m a.u) (block_of m a.t)) (slot_of m a.u)) ((let aimed-3 : c.heading-h.result.0 ≡ heading c.args.order.0 (block_of c.args.order.0 c.args.u) (block_of c.args.order.0 c.args.t) (slot_of c.args.order.0 c.args.t) = let a = c.args in
    let m = a.order.0 in
    c.heading-h.ensures ∙ ap₂ (aim m) ((let apart-2 : bit_xor c.args.u c.args.t / c.slots_in-slots.result ≡ bit_xor (block_of c.args.order.0 c.args.u) (block_of c.args.order.0 c.args.t) = let a = c.args in ap (λ (n : ℕ). bit_xor a.u a.t / n) c.slots_in-slots.ensures ∙ xor_shr a.u a.t a.order.0 in apart-2)) (slot c.args.order.0 c.slots_in-slots.result a.t c.slots_in-slots.ensures) ∙ aim-heading m (block_of m a.u) (block_of m a.t) (slot_of m a.t) in aimed-3)))
    ∙ change-next m a.u a.t c.requires.source c.requires.target
