-- `line_put::put_paths` meets its contract: the invariant is how many paths are written (`Pathing`). Assumes nothing.
use Rattle.line_put.specs.Writes.{Pathing}
use Rattle.line_put.proofs.put_paths.Given as goal

abbrev pub invariant-loop-i : goal.invariant-loop-i
invariant-loop-i l = Pathing l.w l.places l.counts l.initial.out l.at l.k l.i l.p l.out
