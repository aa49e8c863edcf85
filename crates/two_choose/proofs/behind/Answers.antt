-- `two_choose::behind` meets its contract. Assumes nothing.
use Rattle.std.proofs.Common.{sym, subst, Bool}
use Rattle.two_math.specs.Sort.{Behind}
use Rattle.two_gate.specs.Says.{Tells, tells_no}
use Rattle.two_choose.specs.Masks.{behind_bit, behind_none}
use Rattle.two_choose.proofs.behind.Goals as goal

pub returns-then-one_bit : goal.returns-then-one_bit
returns-then-one_bit c =
    let a = c.args in
    let x = c.one_bit.ensures.only c.if-one_bit.true in
    subst (λ (t : Bool). Tells (Behind a.s0 a.doors a.b) t) (sym c.bit.ensures) (behind_bit a.s0 a.doors a.b _ x.0 x.2 c.lowest.ensures)

pub returns : goal.returns
returns c = tells_no (behind_none c.args.s0 c.args.doors c.args.b c.one_bit.ensures c.if-one_bit.false)
