use Rattle.std.proofs.Common.{sym, arith}
use Rattle.scan.specs.Laws.{passed_start, passed_more, passed_at, passed_all}
use Rattle.judge_rows.specs.Laws.{not_filled, filled}
use Rattle.judge_rows.proofs.unfilled_at.Goals as goal

pub loop-p-init : goal.loop-p-init
loop-p-init c = passed_start _ _ _

pub returns-then-relay : goal.returns-then-relay
returns-then-relay c =
    let a = c.args in
    sym (passed_at c.loop-p.invariant (omega arith) (not_filled a.rules.width a.places.now a.i _ c.relay.ensures c.if-relay.true))

pub loop-p-preserved : goal.loop-p-preserved
loop-p-preserved c =
    let a = c.args in
    passed_more c.loop-p.invariant (omega arith) (filled a.rules.width a.places.now a.i _ c.relay.ensures c.if-relay.false)

pub returns : goal.returns
returns c = sym (passed_all c.loop-p.invariant (omega arith))
