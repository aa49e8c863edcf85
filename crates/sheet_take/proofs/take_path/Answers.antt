-- `sheet_take::take_path` meets its contract: the source, the relays, filler. Assumes nothing.
use Rattle.sheet.specs.Format.{relays_at}
use Rattle.sheet.specs.Lengths.{relays-count}
use Rattle.sheet_take.specs.Taking.{row_taken}
use Rattle.sheet_take.proofs.take_path.Goals as goal

pub returns : goal.returns
returns c = let a = c.args in row_taken a.source a.longest a.to a.h a.places.now (relays_at a.bytes.now a.at a.h) (relays-count a.bytes.now a.at a.h) c.take_relays.ensures c.fill.ensures
