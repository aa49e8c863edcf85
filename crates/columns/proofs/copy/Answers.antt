-- `columns::copy` meets its contract: a value more is copied at each turn. Assumes nothing.
use Rattle.std.proofs.Common.{arith, length}
use Rattle.columns.specs.Laws.{copied_next}
use Rattle.columns.proofs.copy.Goals as goal

pub loop-i-preserved : goal.loop-i-preserved
loop-i-preserved g c =
    copied_next c.args.from.now c.index-from-i.result c.index-from-i.is c.loop-i.invariant (omega (arith, c.requires.room)) (omega (arith, c.requires.there))
