-- `two_general::own_leg` meets its contract: each return is the leg of its target's kind. Assumes nothing.
use Rattle.std.proofs.Common.{◌∙◌, sym}
use Rattle.bits.specs.Laws.{bit-on, bit_off}
use Rattle.two_general.specs.Draft.{first_ask}
use Rattle.two_general.specs.Legs.{leg_straight, leg_direct, leg_gated}
use Rattle.two_general.proofs.own_leg.Goals as goal

pub returns-then-bit-2 : goal.returns-then-bit-2
returns-then-bit-2 c = λ m s0 p0 k leave blocks o ne lt s l.
    let on = bit-on _ _ (sym c.bit-2.ensures ∙ c.if-bit-2.true) in
    leg_straight s _ lt leave _ _ on (l.straight ne (bit_off _ _ (sym c.bit.ensures ∙ c.if-bit.false)) on) c.gate_tail-through.ensures

pub row-blocks-requires : goal.row-blocks-requires
row-blocks-requires c =
    let i = c.requires.4 in
    let q = first_ask i.state _ i.lt (bit_off _ _ (sym c.bit.ensures ∙ c.if-bit.false)) (bit_off _ _ (sym c.bit-2.ensures ∙ c.if-bit-2.false)) in
    (q.0, q.1)

pub returns-then-bit-3 : goal.returns-then-bit-3
returns-then-bit-3 c = λ m s0 p0 k leave blocks o ne lt s l.
    let outer = bit_off _ _ (sym c.bit.ensures ∙ c.if-bit.false) in
    let curved = bit_off _ _ (sym c.bit-2.ensures ∙ c.if-bit-2.false) in
    let d = l.single ne outer curved in
    rw c.row-blocks.ensures (leg_gated s _ lt outer curved leave d.0 d.1 _ _ (bit-on _ _ (sym c.bit-3.ensures ∙ c.if-bit-3.true)) c.gate_tail-through.ensures)

pub returns : goal.returns
returns c = λ m s0 p0 k leave blocks o ne lt s l.
    let outer = bit_off _ _ (sym c.bit.ensures ∙ c.if-bit.false) in
    let curved = bit_off _ _ (sym c.bit-2.ensures ∙ c.if-bit-2.false) in
    let d = l.single ne outer curved in
    rw c.row-blocks.ensures (leg_direct s _ lt outer curved leave d.0 d.1 _ (bit_off _ _ (sym c.bit-3.ensures ∙ c.if-bit-3.false)) ne)
