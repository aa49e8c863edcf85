-- `columns::stopped_at` meets its contract: it is looked for where it has its mark. Assumes nothing.
use Rattle.std.proofs.Common.{◌∙◌}
use Rattle.scan.specs.Scan.{has}
use Rattle.columns.specs.Laws.{unstruck}
use Rattle.columns.proofs.stopped_at.Goals as goal

pub returns-then-marked : goal.returns-then-marked
unfolding has
returns-then-marked c = c.among.ensures

pub returns-else-marked : goal.returns-else-marked
returns-else-marked c =
    c.if-marked.false ∙ unstruck c.args.hit.now c.requires.x_value c.key.ensures c.marked.ensures c.if-marked.false
