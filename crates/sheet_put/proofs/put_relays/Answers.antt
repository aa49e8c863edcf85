use Rattle.std.proofs.Common.{refl}
use Rattle.sheet_put.specs.Putting.{relayed_starts, relayed_more}
use Rattle.sheet_put.proofs.put_relays.Goals as goal

pub loop-i-init : goal.loop-i-init
loop-i-init c = relayed_starts _ _ _ _ _

pub loop-i-preserved : goal.loop-i-preserved
loop-i-preserved c = relayed_more c.loop-i.invariant c.loop-i-test.true refl c.put_eight.ensures
