-- `dimacs_marks::any_link` meets its contract: a search of the links. Assumes nothing.
use Rattle.scan.specs.Laws.{Passed}
use Rattle.dimacs_marks.specs.Marks.{lacks}
use Rattle.dimacs_marks.proofs.any_link.Given as goal

abbrev pub invariant-loop-i : goal.invariant-loop-i
invariant-loop-i l = Passed (lacks l.mesh.kind l.mesh.size l.u l.mark) 0 l.links l.i
