-- `two_takeover::take_over` meets its contract. Assumes nothing.
use Rattle.std.proofs.Common.{arith}
use Rattle.two_write.specs.Blocks.{order_small}
use Rattle.two_takeover.specs.TakeOver.{small}
use Rattle.two_takeover.proofs.take_over.Goals as goal

pub flip-front-requires : goal.flip-front-requires
flip-front-requires c = omega (arith, c.requires.home, order_small c.requires.order)

pub bounds-targets-r : goal.bounds-targets-r
bounds-targets-r c = small c.requires c.flip-front.ensures c.crowd_by.ensures c.in_ok-r.was
