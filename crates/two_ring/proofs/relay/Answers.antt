-- `two_ring::relay` meets its contract: the table is the ring. Assumes nothing.
use Rattle.two_ring.specs.Way.{ring, ring_is}
use Rattle.two_ring.proofs.relay.Goals as goal

pub returns : goal.returns
unfolding ring
returns c = ring_is c.args.place
