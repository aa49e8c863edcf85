use Rattle.std.proofs.Common.{sym, ap, ◌∙◌, arith}
use Rattle.scan.specs.Scan.{found, any}
use Rattle.scan.specs.Laws.{passed_start, passed_more, passed_at, passed_all}
use Rattle.judge_rows.proofs.on_earlier.Goals as goal

pub loop-j-init : goal.loop-j-init
loop-j-init c = passed_start _ 0 _

pub on-requires : goal.on-requires
on-requires c = c.requires _ c.loop-j-test.true

pub returns-then-on : goal.returns-then-on
unfolding any
returns-then-on c = sym (ap found (passed_at c.loop-j.invariant (omega arith) (sym c.on.ensures ∙ c.if-on.true)))

pub loop-j-preserved : goal.loop-j-preserved
loop-j-preserved c = passed_more c.loop-j.invariant (omega arith) (sym c.on.ensures ∙ c.if-on.false)

pub returns : goal.returns
unfolding any
returns c = sym (ap found (passed_all c.loop-j.invariant (omega arith)))
