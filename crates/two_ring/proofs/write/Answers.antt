use Rattle.two_ring.specs.Sides.{writing_more}
use Rattle.two_ring.proofs.write.Goals as goal

pub loop-i-preserved : goal.loop-i-preserved
loop-i-preserved c = writing_more _ c.loop-i.invariant c.loop-i-test.true c.requires.1 c.relay.ensures
