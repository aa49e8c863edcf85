-- `bits::power` meets its contract: 1 shifted by less than 64 is the power of two. Assumes nothing.
use Rattle.std.proofs.Common.{◌∙◌, ◌^◌, one-mul, arith, shl_exact}
use Rattle.bits.proofs.power.Goals as goal

pub returns : goal.returns
returns c = shl_exact 1 c.args.k 64 (omega arith) (omega arith) ∙ one-mul (2 ^ c.args.k)
