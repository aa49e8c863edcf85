-- `sheet_put::first_zone` meets its contract: the invariant is that each path passed has no zone. Assumes nothing.
use Rattle.scan.specs.Laws.{Passed}
use Rattle.sheet_put.specs.Stray.{has_zone}
use Rattle.sheet_put.proofs.first_zone.Given as goal

abbrev pub invariant-loop-i : goal.invariant-loop-i
invariant-loop-i l = Passed (has_zone l.zones) 0 l.k l.i
