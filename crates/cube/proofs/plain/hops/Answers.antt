-- `cube::plain::hops` meets its contract: the route has a hop for each bit that differs. Assumes nothing.
use Rattle.std.proofs.Common.{sym, le_refl, arith, bit_xor}
use lib.Bits.{xor_lt}
use lib.Count.{ones-le}
use Rattle.cube.specs.Routes.{hops-ones}
use Rattle.cube.proofs.plain.hops.Goals as goal

pub overflow_cast-result : goal.overflow_cast-result
overflow_cast-result c = omega (arith, ones-le 64 (bit_xor c.args.s c.args.t) (xor_lt 64 c.args.s c.args.t c.ranges.s.fits c.ranges.t.fits))

pub returns : goal.returns
returns c = sym (hops-ones 64 c.args.s c.args.t (le_refl 64) c.ranges.s.fits c.ranges.t.fits)
