-- `bits::first` meets its contract. Assumes nothing.
use lib.Count.{trailing_le}
use Rattle.bits.specs.Laws.{trailing_lowest}
use Rattle.bits.proofs.first.Goals as goal

pub returns : goal.returns
returns c =
    record {
      upper_bound = trailing_le 64 c.args.x;
      lowest = λ ne. trailing_lowest 64 c.args.x ne c.ranges.x.fits;
    }
