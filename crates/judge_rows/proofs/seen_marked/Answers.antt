-- `judge_rows::seen_marked` meets its contract: a relay without its mark stands on no path before it, and else it is looked for. Assumes nothing.
use Rattle.std.proofs.Common.{refl, ◌∙◌, arith}
use Rattle.paths.specs.Fan.{hops}
use Rattle.judge_rows.specs.Rules.{rules_of}
use Rattle.judge_rows.specs.Looked.{new_excepted, new_here}
use Rattle.judge_rows.proofs.seen_marked.Goals as goal

pub twinned-requires : goal.twinned-requires
unfolding hops
twinned-requires c = (omega (arith, c.requires.after.counted), refl)

pub returns-then-excepted : goal.returns-then-excepted
unfolding hops
returns-then-excepted c =
    let a = c.args in
    new_excepted (rules_of a.rules) a.places.now a.counts.now a.i a.p c.requires.after.ruled.wide c.requires.x_value c.requires.looked c.marked.ensures c.if-marked.false
    c.excepted.ensures c.if-excepted.true c.twinned.ensures

pub returns-else-excepted : goal.returns-else-excepted
unfolding hops
returns-else-excepted c =
    let a = c.args in
    c.if-excepted.false
    ∙ new_here (rules_of a.rules) a.places.now a.counts.now a.i a.p c.requires.after.ruled.wide c.requires.x_value c.requires.looked c.marked.ensures c.if-marked.false
    c.excepted.ensures c.if-excepted.false
