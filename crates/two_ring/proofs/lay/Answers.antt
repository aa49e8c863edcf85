-- `two_ring::lay` meets its contract. Assumes nothing.
use Rattle.two_ring.specs.Sides.{side}
use Rattle.two_ring.proofs.lay.Goals as goal

pub returns : goal.returns
returns c =
    side _ _ _ c.requires.0 c.hops-n.ensures c.spot.ensures c.step.ensures c.write.ensures
