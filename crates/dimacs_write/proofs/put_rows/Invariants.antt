-- `dimacs_write::put_rows` meets its contract: relay by relay (`Eaching`). Assumes nothing.
use Rattle.mesh.specs.Kinds.{mesh_of}
use Rattle.dimacs.specs.Text.{row}
use Rattle.dimacs.specs.Pieces.{Eaching}
use Rattle.dimacs_write.proofs.put_rows.Given as goal

abbrev pub invariant-loop-u : goal.invariant-loop-u
invariant-loop-u l = Eaching (row (mesh_of l.mesh.kind l.mesh.size)) l.initial.out l.at l.relays l.u l.p l.out
