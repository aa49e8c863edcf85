use Rattle.std.proofs.Common.{arith}
use Rattle.input.proofs.Filled.{filled_more}
use Rattle.input.proofs.read_all.Goals as goal

pub loop-n-preserved : goal.loop-n-preserved
loop-n-preserved g c = record {
  within = c.in_ok-got.ensures.within;
  kept = omega arith;
  bytes = filled_more _ _ _ _ _ c.loop-n.n _ c.in_ok-got.ensures.before c.loop-n.invariant.bytes c.in_ok-got.ensures.bytes;
}
