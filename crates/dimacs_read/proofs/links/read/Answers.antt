-- `dimacs_read::links::read` meets its contract: what stands against the mesh, then the lines, then their links. Assumes nothing.
use Rattle.std.proofs.Common.{sym}
use Rattle.dimacs.specs.Needs.{export_fine}
use Rattle.dimacs_read.proofs.links.read.Goals as goal

pub counted-requires : goal.counted-requires
counted-requires c = export_fine _ _ (sym c.in_ok-exported.ensures)
