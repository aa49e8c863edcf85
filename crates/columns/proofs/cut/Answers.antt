use Rattle.std.proofs.Common.{sym, ◌∙◌, arith}
use Rattle.columns.specs.Laws.{cut-here, cut-later, cut-none}
use Rattle.columns.proofs.cut.Goals as goal

pub returns-then-pair : goal.returns-then-pair
returns-then-pair c =
    let rest = c.loop-rest.rest.now in
    cut-here rest c.args.u c.args.v c.in-len2-up.len_at_least c.pair.ensures c.if-pair.true ∙ c.loop-rest.invariant

pub loop-rest-preserved : goal.loop-rest-preserved
loop-rest-preserved c =
    let rest = c.loop-rest.rest.now in
    cut-later rest c.args.u c.args.v c.in-len2-up.len_at_least c.pair.ensures c.if-pair.false ∙ c.loop-rest.invariant

pub returns : goal.returns
returns c = sym (cut-none c.loop-rest.rest.now c.args.u c.args.v 0 (omega (arith, c.in_default.len_below))) ∙ c.loop-rest.invariant
