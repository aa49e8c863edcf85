-- `bits::one_bit` meets its contract: a number with one set bit is a power of two. Assumes nothing.
use Rattle.std.proofs.Common.{ap, ◌∙◌, eqb-true, eq-eqb}
use lib.Count.{ones}
use Rattle.bits.specs.Laws.{ones-one, ones-pow}
use Rattle.bits.proofs.one_bit.Goals as goal

pub returns : goal.returns
returns c = record {
  only = λ t. ones-one 64 c.args.x c.ranges.x.fits (eqb-true (ones c.args.x) 1 t);
  all = λ i e. eq-eqb (ones c.args.x) 1 (ap ones e ∙ ones-pow i);
}
