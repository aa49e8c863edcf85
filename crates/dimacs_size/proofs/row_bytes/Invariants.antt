-- `dimacs_size::row_bytes` meets its contract: link by link (`Summing`). Assumes nothing.
use Rattle.dimacs.specs.Pieces.{Summing}
use Rattle.dimacs.specs.Needs.{link_of}
use Rattle.dimacs_size.proofs.row_bytes.Given as goal

abbrev pub invariant-loop-i : goal.invariant-loop-i
invariant-loop-i l = Summing (link_of l.mesh.kind l.mesh.size l.u) l.links l.i l.sum
