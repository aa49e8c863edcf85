-- `dimacs_marks::mark` meets its contract, by which number is the lower. Assumes nothing.
use Rattle.std.proofs.Common.{arith}
use Rattle.dimacs_marks.specs.Marks.{loop_line, marks_turned}
use Rattle.dimacs_marks.proofs.mark.Goals as goal

pub returns-then-b-a : goal.returns-then-b-a
returns-then-b-a c = marks_turned c.requires.rows _ _ c.mark_up-then-b-a.ensures

pub returns : goal.returns
returns c = loop_line c.requires.rows _ _ (omega arith)
