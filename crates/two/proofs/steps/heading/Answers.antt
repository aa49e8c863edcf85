-- `two::steps::heading` meets its contract. Assumes nothing.
use Rattle.std.proofs.Common.{◌∙◌, sym}
use Rattle.two.specs.Turns.{aim_same, aim-other}
use Rattle.two.proofs.steps.heading.Goals as goal

pub crossing-far-requires : goal.crossing-far-requires
crossing-far-requires c = c.requires

pub returns-then-apart-eq0 : goal.returns-then-apart-eq0
returns-then-apart-eq0 c = let a = c.args in sym (aim_same a.order.0 a.apart.0 a.q.0 c.if-apart-eq0.true)

pub returns : goal.returns
returns c =
    let a = c.args in
    c.crossing-far.ensures c.if-apart-eq0.false ∙ sym (aim-other a.order.0 a.apart.0 a.q.0 c.if-apart-eq0.false)
