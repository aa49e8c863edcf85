-- `region::sheets::lay` meets its contract: the fan is planned in room enough, and its sheet fits. Assumes nothing.
use Rattle.region.specs.Planning.{lay_able, lay_sheeted, lay_answered}
use Rattle.region.proofs.sheets.lay.Goals as goal

pub lay-requires : goal.lay-requires
lay-requires c = let a = c.args in lay_able a.mesh.kind a.mesh.size a.source a.targets.now c.requires

pub put_sheet-written-requires : goal.put_sheet-written-requires
put_sheet-written-requires c = let a = c.args in lay_sheeted a.mesh.kind a.mesh.size a.source a.targets.now c.requires c.lay.ensures

pub returns : goal.returns
returns c = let a = c.args in lay_answered a.mesh.kind a.mesh.size a.source a.targets.now c.requires c.lay.ensures c.put_sheet-written.ensures
