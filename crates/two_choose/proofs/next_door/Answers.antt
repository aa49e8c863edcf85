-- `two_choose::next_door` meets its contract. Assumes nothing.
use Rattle.std.proofs.Common.{◌∙◌, sym, refl, inl, inr}
use Rattle.bits.specs.Laws.{bit-on, bit_off}
use Rattle.two_choose.specs.Doors.{next_lowest}
use Rattle.two_choose.proofs.next_door.Goals as goal

pub returns-then-i-ne0 : goal.returns-then-i-ne0
returns-then-i-ne0 c =
    let a = c.args in
    next_lowest a.p0 a.keep a.shut a.i _ _ (inl c.if-i-ne0.true) c.less.ensures c.lowest-free.ensures

pub returns-then-bit : goal.returns-then-bit
returns-then-bit c =
    let a = c.args in
    next_lowest a.p0 a.keep a.shut a.i _ _ (inr (bit-on a.p0 a.keep (sym c.bit.ensures ∙ c.if-bit.true))) c.less.ensures c.lowest-free.ensures

pub returns : goal.returns
returns c =
    let a = c.args in
    inl (c.if-i-ne0.false, bit_off a.p0 a.keep (sym c.bit.ensures ∙ c.if-bit.false), refl)
