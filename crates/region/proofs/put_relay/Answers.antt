-- `region::put_relay` meets its contract: 8, or the relay at the front. Assumes nothing.
use Rattle.region.specs.Stepping.{put-short, put_done}
use Rattle.region.proofs.put_relay.Goals as goal

pub returns-then-out-lt8 : goal.returns-then-out-lt8
returns-then-out-lt8 c = let a = c.args in put-short a.relay a.out.now c.if-out-lt8.true c.code.ensures

pub returns : goal.returns
returns c = let a = c.args in put_done a.relay a.out.now c.if-out-lt8.false c.put_eight.ensures
