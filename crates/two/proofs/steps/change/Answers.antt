-- `two::steps::change` meets its contract. Assumes nothing.
use Rattle.std.proofs.Common.{◌∙◌, sym}
use Rattle.two.specs.Turns.{change-there, change_off}
use Rattle.two.proofs.steps.change.Goals as goal

pub across-over-requires : goal.across-over-requires
across-over-requires c = record { order = c.requires.order; from = c.requires.from; to = c.requires.from }

pub along-low-requires : goal.along-low-requires
along-low-requires c = c.requires

pub returns-then-p-h : goal.returns-then-p-h
returns-then-p-h c =
    let a = c.args in
    c.across-over.ensures ∙ sym (change-there a.order.0 a.apart.0 a.p.0 a.h.0 c.if-p-h.true)

pub returns : goal.returns
returns c =
    let a = c.args in
    c.along-low.ensures ∙ sym (change_off a.order.0 a.apart.0 a.p.0 a.h.0 c.if-p-h.false)
