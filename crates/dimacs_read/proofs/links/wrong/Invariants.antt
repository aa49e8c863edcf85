-- `dimacs_read::links::wrong` meets its contract: line by line (`Judging`). Assumes nothing.
use Rattle.std.proofs.Common.{◌-◌, length}
use Rattle.dimacs_read.specs.Turns.{Judging}
use Rattle.dimacs_read.proofs.links.wrong.Given as goal

abbrev pub invariant-loop-at : goal.invariant-loop-at
invariant-loop-at l = Judging l.mesh.kind l.mesh.size l.text l.initial.marks l.at l.line l.marks

abbrev pub decreases-loop-at : goal.decreases-loop-at
decreases-loop-at l = length l.text - l.at
