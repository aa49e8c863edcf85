-- `columns::stopped_on` meets its contract: the invariant is that no relay passed has stopped. Assumes nothing.
use Rattle.std.proofs.Common.{◌+◌, []}
use Rattle.scan.specs.Laws.{Passed}
use Rattle.paths.specs.Whole.{failed, stops}
use Rattle.columns.proofs.stopped_on.Given as goal

abbrev pub invariant-loop-p : goal.invariant-loop-p
invariant-loop-p l = Passed (stops l.w l.places (failed l.stopped []) l.i) 0 (l.h + 1) l.p
