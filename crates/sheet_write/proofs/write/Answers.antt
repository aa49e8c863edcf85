-- `sheet_write::write` meets its contract: version 1, and no zones. Assumes nothing.
use Rattle.sheet_write.specs.Writing.{wrote_one}
use Rattle.sheet_write.proofs.write.Goals as goal

pub returns : goal.returns
returns c = let a = c.args in wrote_one a.mesh.kind a.mesh.size a.source a.targets.now a.places.now a.counts.now a.out.now c.write_in.ensures
