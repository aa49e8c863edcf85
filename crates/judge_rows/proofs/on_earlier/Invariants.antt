-- `judge_rows::on_earlier` meets its contract: the invariant is that x stands on none of the paths passed. Assumes nothing.
use Rattle.scan.specs.Laws.{Passed}
use Rattle.paths.specs.Finding.{on}
use Rattle.judge_rows.proofs.on_earlier.Given as goal

abbrev pub invariant-loop-j : goal.invariant-loop-j
invariant-loop-j l = Passed (on l.w l.places l.counts l.x) 0 l.i l.j
