-- `two_write::base` meets its contract: nothing is shifted out. Assumes nothing.
use Rattle.std.proofs.Common.{◌^◌, arith, shl_exact}
use Rattle.two_write.specs.Blocks.{order_small}
use Rattle.two_write.proofs.base.Goals as goal

pub returns : goal.returns
returns c = shl_exact (2 ^ c.args.m) c.args.m 64 c.requires.1 (omega (arith, order_small c.requires.0))
