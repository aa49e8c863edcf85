-- `line_take::all_fields` meets its contract: the invariant is that the rest of the text is read to the same end (`Listing`). Assumes nothing.
use Rattle.std.proofs.Common.{◌-◌, length}
use Rattle.line_take.specs.Reads.{Listing}
use Rattle.line_take.proofs.all_fields.Given as goal

abbrev pub invariant-loop-value : goal.invariant-loop-value
invariant-loop-value l = Listing l.text l.at l.initial.out l.out l.i l.n

abbrev pub decreases-loop-value : goal.decreases-loop-value
decreases-loop-value l = length l.text - l.i
