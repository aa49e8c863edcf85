-- `columns::whole` meets its contract: its relays, then its links. Assumes nothing.
use Rattle.std.proofs.Common.{ap, ◌∙◌}
use Rattle.std.proofs.Math.Bool.{not}
use Rattle.columns.specs.Laws.{stopped-told, whole-told}
use Rattle.columns.proofs.whole.Goals as goal

pub returns-then-not-stopped_on : goal.returns-then-not-stopped_on
returns-then-not-stopped_on c =
    let a = c.args in
    whole-told a.w a.places.now a.counts.now a.stopped.now a.cuts.now a.i c.stopped_on.ensures c.if-not-stopped_on.true c.cut_on.ensures

pub returns-else-not-stopped_on : goal.returns-else-not-stopped_on
returns-else-not-stopped_on c =
    let a = c.args in
    ap not c.if-not-stopped_on.false
    ∙ stopped-told a.w a.places.now a.counts.now a.stopped.now a.cuts.now a.i c.stopped_on.ensures c.if-not-stopped_on.false
