use Rattle.std.proofs.Common.{sym, arith, eq-eqb, ne_eqb}
use Rattle.scan.specs.Laws.{passed_start, passed_more, passed_at, passed_all}
use Rattle.requests.proofs.same_at.Goals as goal

pub loop-j-init : goal.loop-j-init
loop-j-init c = passed_start _ 0 _

pub returns-then-target-source : goal.returns-then-target-source
returns-then-target-source c = sym (passed_at c.loop-j.invariant (omega arith) (eq-eqb _ _ c.if-target-source.true))

pub loop-j-preserved : goal.loop-j-preserved
loop-j-preserved c = passed_more c.loop-j.invariant (omega arith) (ne_eqb _ _ c.if-target-source.false)

pub returns : goal.returns
returns c = sym (passed_all c.loop-j.invariant (omega arith))
