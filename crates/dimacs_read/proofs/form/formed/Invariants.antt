-- `dimacs_read::form::formed` meets its contract: line by line (`Forming`). Assumes nothing.
use Rattle.std.proofs.Common.{◌-◌, length}
use Rattle.dimacs_read.specs.Forms.{Forming}
use Rattle.dimacs_read.proofs.form.formed.Given as goal

abbrev pub invariant-loop-at : goal.invariant-loop-at
invariant-loop-at l = Forming l.text l.at l.line l.counts

abbrev pub decreases-loop-at : goal.decreases-loop-at
decreases-loop-at l = length l.text - l.at
