use Rattle.dimacs_read.specs.Turns.{judge_start, judge_more, judge_found, judge_over, judge_all}
use Rattle.dimacs_read.proofs.links.wrong.Goals as goal

pub loop-at-init : goal.loop-at-init
loop-at-init c = judge_start _ _ _ _

pub returns-in_err-piece : goal.returns-in_err-piece
returns-in_err-piece c = rw c.from_residual.ensures (judge_over c.loop-at.invariant c.loop-at-test.true c.in_err-piece.ensures)

pub returns-then-not-right : goal.returns-then-not-right
returns-then-not-right c = judge_found c.loop-at.invariant c.loop-at-test.true _ _ _ c.in_ok-piece.ensures c.right.ensures c.if-not-right.true

pub loop-at-preserved : goal.loop-at-preserved
loop-at-preserved c = judge_more c.loop-at.invariant c.loop-at-test.true _ _ _ c.in_ok-piece.ensures c.right.ensures c.if-not-right.false

pub returns : goal.returns
returns c = judge_all c.loop-at.invariant c.loop-at-test.false
