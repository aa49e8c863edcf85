-- `dimacs_size::rows_bytes` meets its contract: relay by relay (`Summing`). Assumes nothing.
use Rattle.mesh.specs.Kinds.{mesh_of}
use Rattle.dimacs.specs.Text.{row}
use Rattle.dimacs.specs.Pieces.{Summing}
use Rattle.dimacs_size.proofs.rows_bytes.Given as goal

abbrev pub invariant-loop-u : goal.invariant-loop-u
invariant-loop-u l = Summing (row (mesh_of l.mesh.kind l.mesh.size)) l.relays l.u l.sum
