-- `dimacs_marks::put` meets its contract, by whether the bit is set. Assumes nothing.
use Rattle.std.proofs.Common.{arith}
use Rattle.dimacs_marks.specs.Marks.{mark_fits}
use Rattle.dimacs_marks.proofs.put.Goals as goal

pub overflow_cast-seen : goal.overflow_cast-seen
overflow_cast-seen c = omega (arith, mark_fits (omega (arith, c.from-mark.ensures, c.slice_known-1.given c.args.u)) c.requires.1 c.flip.ensures)
