-- `bits::swap` meets its contract: nothing is lost by the shift to the left. Assumes nothing.
use Rattle.std.proofs.Common.{◌/◌, ◌^◌, ap, mod-eq_of_lt, mul-le-mul_right, lt_of_le_of_lt, bit_xor}
use lib.Bits.{and_le_r}
use Rattle.bits.specs.Swaps.{turning, swapped}
use Rattle.bits.proofs.swap.Goals as goal

pub returns : goal.returns
unfolding swapped turning
returns c =
    let a = c.args in
    let within = and_le_r (bit_xor a.x (a.x / 2 ^ a.up)) a.mask in
    ap (bit_xor (bit_xor a.x (turning a.mask a.up a.x))) (mod-eq_of_lt (lt_of_le_of_lt (mul-le-mul_right (2 ^ a.up) within) c.requires.up_bound))
