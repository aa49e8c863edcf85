use Rattle.std.proofs.Common.{◌∙◌, sym, arith}
use Rattle.scan.specs.Laws.{passed_start, passed_more, passed_at, passed_all}
use Rattle.requests.proofs.again_at.Goals as goal

pub loop-j-init : goal.loop-j-init
loop-j-init c = passed_start _ 0 _

pub returns-then-among : goal.returns-then-among
returns-then-among c = sym (passed_at c.loop-j.invariant (omega arith) (sym c.among.ensures ∙ c.if-among.true))

pub loop-j-preserved : goal.loop-j-preserved
loop-j-preserved c = passed_more c.loop-j.invariant (omega arith) (sym c.among.ensures ∙ c.if-among.false)

pub returns : goal.returns
returns c = sym (passed_all c.loop-j.invariant (omega arith))
