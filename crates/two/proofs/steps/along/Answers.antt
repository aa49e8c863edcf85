-- `two::steps::along` meets its contract. Assumes nothing.
use Rattle.std.proofs.Common.{◌∙◌, sym}
use Rattle.bits.specs.Laws.{xor-zero-eq}
use Rattle.two.specs.Turns.{along-same, along_lowest}
use Rattle.two.proofs.steps.along.Goals as goal

pub returns-then-p-h : goal.returns-then-p-h
returns-then-p-h c = let a = c.args in sym (along-same a.order.0 a.p.0 a.h.0 c.if-p-h.true)

pub lowest-requires : goal.lowest-requires
lowest-requires c = let a = c.args in λ e. c.if-p-h.false (xor-zero-eq a.p.0 a.h.0 e)

pub power-requires : goal.power-requires
power-requires c = c.lowest.ensures.within

pub returns : goal.returns
returns c =
    c.power.ensures
    ∙ sym (along_lowest c.args.order.0 c.args.p.0 c.args.h.0 c.lowest.result c.requires.from c.requires.to c.if-p-h.false c.lowest.ensures)
