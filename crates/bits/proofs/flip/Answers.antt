-- `bits::flip` meets its contract: 1 shifted by less than 64 is the power of two. Assumes nothing.
use Rattle.std.proofs.Common.{ap, ◌∙◌, one-mul, arith, shl_exact, bit_xor, ◌^◌}
use Rattle.bits.specs.Bit.{flip}
use Rattle.bits.proofs.flip.Goals as goal

pub returns : goal.returns
unfolding flip
returns c = ap (bit_xor c.args.x) (shl_exact 1 c.args.i 64 (omega arith) (omega arith) ∙ one-mul (2 ^ c.args.i))
