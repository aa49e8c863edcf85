-- `cube_moves::sort_one` meets its contract. Assumes nothing.
use Rattle.cube_moves.specs.Sort.{sort_none, sort_some}
use Rattle.cube_moves.proofs.sort_one.Goals as goal

pub returns-then-d-eq0 : goal.returns-then-d-eq0
returns-then-d-eq0 c = sort_none _ _ _ _ _ _ _ _ c.less.ensures c.door-d.ensures c.if-d-eq0.true

pub returns : goal.returns
returns c = sort_some _ _ _ _ _ _ _ _ _ c.less.ensures c.flip.ensures c.door-d.ensures c.if-d-eq0.false
