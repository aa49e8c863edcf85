-- `dimacs_write::put_row` meets its contract: link by link (`Eaching`). Assumes nothing.
use Rattle.dimacs.specs.Pieces.{Eaching}
use Rattle.dimacs.specs.Needs.{link_of}
use Rattle.dimacs_write.proofs.put_row.Given as goal

abbrev pub invariant-loop-i : goal.invariant-loop-i
invariant-loop-i l = Eaching (link_of l.mesh.kind l.mesh.size l.u) l.initial.out l.at l.links l.i l.p l.out
