-- `struck::keep` meets its contract: x is marked, or the paths don't have it. Assumes nothing.
use Rattle.std.proofs.Common.{refl, sym, ◌∙◌}
use Rattle.struck.specs.Laws.{kept_put, kept_same}
use Rattle.struck.proofs.keep.Goals as goal

pub returns-then-marked : goal.returns-then-marked
returns-then-marked c = kept_put c.requires.hit_len c.put.ensures

pub returns-else-marked : goal.returns-else-marked
returns-else-marked c = kept_same c.requires.hit_len refl (sym c.marked.ensures ∙ c.if-marked.false)
