-- `sheet_take::zone_at` meets its contract: four bytes fit a zone. Assumes nothing.
use Rattle.std.proofs.Common.{◌+◌, arith}
use Rattle.octets.specs.Big.{number-below}
use Rattle.sheet_take.proofs.zone_at.Goals as goal

pub overflow_cast-result : goal.overflow_cast-result
overflow_cast-result c = let a = c.args in omega (arith, c.number.ensures, number-below a.bytes.now (λ i. (c.shared_slice_known-1.given i).fits) (a.at + 2) 4)
