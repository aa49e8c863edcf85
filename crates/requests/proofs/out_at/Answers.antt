use Rattle.std.proofs.Common.{sym, arith, le-leb}
use borrow.Author.Tests.{lt-leb}
use Rattle.scan.specs.Laws.{passed_start, passed_more, passed_at, passed_all}
use Rattle.requests.proofs.out_at.Goals as goal

pub loop-j-init : goal.loop-j-init
loop-j-init c = passed_start _ 0 _

pub returns-then-relays-target : goal.returns-then-relays-target
returns-then-relays-target c = sym (passed_at c.loop-j.invariant (omega arith) (le-leb _ _ c.if-relays-target.true))

pub loop-j-preserved : goal.loop-j-preserved
loop-j-preserved c = passed_more c.loop-j.invariant (omega arith) (lt-leb _ _ c.if-relays-target.false)

pub returns : goal.returns
returns c = sym (passed_all c.loop-j.invariant (omega arith))
