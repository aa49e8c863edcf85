-- `bits::bit` meets its contract: a mask by 1 is the lowest bit. Assumes nothing.
use Rattle.std.proofs.Common.{ℕ, ◌/◌, ◌^◌, ap, eqb}
use lib.Bits.{and_mask}
use Rattle.bits.specs.Bit.{bit}
use Rattle.bits.proofs.bit.Goals as goal

pub returns : goal.returns
unfolding bit
returns c = ap (λ (y : ℕ). eqb y 1) (and_mask (c.args.x / 2 ^ c.args.i) 1)
