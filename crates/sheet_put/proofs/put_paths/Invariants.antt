-- `sheet_put::put_paths` meets its contract: the invariant is that i paths are written. Assumes nothing.
use Rattle.sheet_put.specs.Putting.{Laying}
use Rattle.sheet_put.proofs.put_paths.Given as goal

abbrev pub invariant-loop-i : goal.invariant-loop-i
invariant-loop-i l = Laying l.version l.w l.places l.counts l.zones l.k l.at l.initial.out l.out l.to l.i
