-- `two_general::leave_of` meets its contract: each return knows the kind of its target. Assumes nothing.
use Rattle.std.proofs.Common.{◌∙◌, sym, ap, arith, ℕ, List, length, get_or}
use Rattle.bits.specs.Laws.{bit_off}
use Rattle.two_general.specs.Draft.{leaves_single, first_ask, door_differs, leaves-door}
use Rattle.two_general.proofs.leave_of.Goals as goal

pub row-requires : goal.row-requires
row-requires c =
    let q = first_ask c.requires.state _ c.requires.lt (bit_off _ _ (sym c.bit.ensures ∙ c.if-bit.false)) (bit_off _ _ (sym c.bit-2.ensures ∙ c.if-bit-2.false)) in
    (q.0, q.1)

pub bounds-row-0 : goal.bounds-row-0
bounds-row-0 c =
    let q = first_ask c.requires.state _ c.requires.lt (bit_off _ _ (sym c.bit.ensures ∙ c.if-bit.false)) (bit_off _ _ (sym c.bit-2.ensures ∙ c.if-bit-2.false)) in
    omega (arith, q.2, ap length c.row.ensures)

pub lowest-requires : goal.lowest-requires
lowest-requires c =
    door_differs c.requires.state _ c.requires.lt (bit_off _ _ (sym c.bit.ensures ∙ c.if-bit.false)) (bit_off _ _ (sym c.bit-2.ensures ∙ c.if-bit-2.false)) _ (ap (λ (l : List ℕ). get_or l 0 0) c.row.ensures)

pub returns : goal.returns
returns c =
    let outer = bit_off _ _ (sym c.bit.ensures ∙ c.if-bit.false) in
    let curved = bit_off _ _ (sym c.bit-2.ensures ∙ c.if-bit-2.false) in
    let q = leaves-door c.requires.state _ c.requires.lt outer curved _ _ (ap (λ (l : List ℕ). get_or l 0 0) c.row.ensures) c.lowest.ensures in
    leaves_single (c.takes.ensures.not c.if-takes.false) outer curved q.0 q.1
