use Rattle.std.proofs.Common.{arith}
use Rattle.struck.specs.Laws.{passing_none, passing_more, passing_all}
use Rattle.struck.proofs.hits.Goals as goal

pub loop-j-init : goal.loop-j-init
loop-j-init c = passing_none c.args.list.now c.args.d c.args.paths.now c.args.hit.now c.requires.hit_len

pub loop-j-preserved : goal.loop-j-preserved
loop-j-preserved c = passing_more c.loop-j.invariant (omega arith) c.key.ensures c.keep.ensures

pub returns : goal.returns
returns c = passing_all c.loop-j.invariant (omega arith)
