use Rattle.scan.specs.Runs.{running_starts, running_more}
use Rattle.sheet_take.specs.Running.{relays-run}
use Rattle.sheet_take.proofs.take_relays.Goals as goal

pub loop-i-init : goal.loop-i-init
loop-i-init c = let a = c.args in running_starts (relays-run a.bytes.now a.at) a.to a.n a.places.now

pub loop-i-preserved : goal.loop-i-preserved
loop-i-preserved c = let a = c.args in running_more (relays-run a.bytes.now a.at) c.loop-i.invariant c.loop-i-test.true c.number_eight.ensures
