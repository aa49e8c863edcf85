-- `requests::out_at` meets its contract: the invariant is that the test failed at each target passed. Assumes nothing.
use Rattle.std.proofs.Common.{length}
use Rattle.scan.specs.Laws.{Passed}
use Rattle.answers.specs.Order.{is_out}
use Rattle.requests.proofs.out_at.Given as goal

abbrev pub invariant-loop-j : goal.invariant-loop-j
invariant-loop-j l = Passed (is_out l.relays l.targets) 0 (length l.targets) l.j
