-- `bits::lowest` meets its contract. Assumes nothing.
use Rattle.bits.specs.Laws.{trailing_lowest}
use Rattle.bits.proofs.lowest.Goals as goal

pub returns : goal.returns
returns c = trailing_lowest 64 c.args.x c.requires c.ranges.x.fits
