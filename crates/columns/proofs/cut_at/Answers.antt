-- `columns::cut_at` meets its contract: it is looked for where it has its mark. Assumes nothing.
use Rattle.std.proofs.Common.{◌∙◌}
use Rattle.columns.specs.Laws.{unstruck}
use Rattle.columns.proofs.cut_at.Goals as goal

pub returns-else-marked : goal.returns-else-marked
returns-else-marked c =
    c.if-marked.false ∙ unstruck c.args.hit.now c.requires.v_value c.key.ensures c.marked.ensures c.if-marked.false
