use Rattle.line_put.specs.Writes.{list_start, list_room, list_more}
use Rattle.line_put.proofs.put_list.Goals as goal

pub loop-n-init : goal.loop-n-init
loop-n-init c = list_start _ _ _

pub put_next-p-requires : goal.put_next-p-requires
put_next-p-requires c = list_room _ _ _ c.loop-n.invariant c.loop-n-test.true c.requires

pub loop-n-preserved : goal.loop-n-preserved
loop-n-preserved c = list_more _ _ _ c.loop-n.invariant c.loop-n-test.true c.put_next-p.ensures
