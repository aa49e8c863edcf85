-- `dimacs_marks::any_lacking` meets its contract: a search of the relays. Assumes nothing.
use Rattle.scan.specs.Laws.{Passed}
use Rattle.dimacs_marks.specs.Marks.{lacks_any}
use Rattle.dimacs_marks.proofs.any_lacking.Given as goal

abbrev pub invariant-loop-u : goal.invariant-loop-u
invariant-loop-u l = Passed (lacks_any l.mesh.kind l.mesh.size l.links l.seen) 0 l.relays l.u
