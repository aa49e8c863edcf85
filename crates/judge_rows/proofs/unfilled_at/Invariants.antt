-- `judge_rows::unfilled_at` meets its contract: the invariant is that each place passed is filled. Assumes nothing.
use Rattle.std.proofs.Common.{◌+◌, ◌-◌}
use Rattle.scan.specs.Laws.{Passed}
use Rattle.paths.specs.Finding.{unfilled}
use Rattle.judge_rows.proofs.unfilled_at.Given as goal

abbrev pub invariant-loop-p : goal.invariant-loop-p
invariant-loop-p l = Passed (unfilled l.w l.places l.i) (l.h + 1) (l.w - (l.h + 1)) l.p
