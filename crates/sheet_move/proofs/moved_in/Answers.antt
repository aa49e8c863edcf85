-- `sheet_move::moved_in` meets its contract: the paths and zones are taken, and written. Assumes nothing.
use Rattle.sheet.specs.Says.{version_number}
use Rattle.sheet_write.specs.PutSheet.{number_small}
use Rattle.sheet_move.specs.Moving.{zones_asked, move_sheeted, move_done}
use Rattle.sheet_move.proofs.moved_in.Goals as goal

pub take_paths-requires : goal.take_paths-requires
take_paths-requires c = rw c.number-was.ensures c.requires.taken

pub take_zones-requires : goal.take_zones-requires
take_zones-requires c = let a = c.args in rw c.number-was.ensures (zones_asked a.places.now a.counts.now a.targets.now a.zones.now c.requires)

pub put_zoned-requires : goal.put_zoned-requires
put_zoned-requires c =
    let a = c.args in (
      move_sheeted a.places.now a.counts.now a.targets.now a.zones.now c.requires (rw c.number-was.ensures at c.take_paths.ensures) (rw c.number-was.ensures at c.take_zones.ensures),
      rw c.number.ensures (number_small a.to),
    )

pub returns : goal.returns
returns c =
    let a = c.args in
    move_done a.places.now a.counts.now a.targets.now a.zones.now c.requires (rw c.number-was.ensures at c.take_paths.ensures) (rw c.number-was.ensures at c.take_zones.ensures) (version_number a.to) (rw c.number.ensures at c.put_zoned.ensures)
