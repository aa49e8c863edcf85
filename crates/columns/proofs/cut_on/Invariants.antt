-- `columns::cut_on` meets its contract: the invariant is that no link passed is cut. Assumes nothing.
use Rattle.std.proofs.Common.{[]}
use Rattle.scan.specs.Laws.{Passed}
use Rattle.paths.specs.Whole.{failed, severs}
use Rattle.columns.proofs.cut_on.Given as goal

abbrev pub invariant-loop-p : goal.invariant-loop-p
invariant-loop-p l = Passed (severs l.w l.places (failed [] l.cuts) l.i) 0 l.h l.p
