-- `sheet_write::write_in` meets its contract: what is to be written is a fan. Assumes nothing.
use Rattle.sheet_write.specs.PutSheet.{number_small}
use Rattle.sheet_write.specs.Writing.{fan_sheeted}
use Rattle.sheet_write.proofs.write_in.Goals as goal

pub put_zoned-requires : goal.put_zoned-requires
put_zoned-requires c = let a = c.args in (fan_sheeted a.lacking a.mesh.kind a.mesh.size a.source a.targets.now a.places.now a.counts.now c.in_ok-judged.ensures, rw c.number.ensures (number_small c.in_ok-version.version))
