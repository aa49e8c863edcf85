-- `decimal::reading::more` meets its contract: the invariant is that the rest of the text is read to the same end (`Reading`). Assumes nothing.
use Rattle.decimal.specs.Read.{Reading}
use Rattle.decimal.proofs.reading.more.Given as goal

abbrev pub invariant-loop-i : goal.invariant-loop-i
invariant-loop-i l = Reading l.text l.at l.value l.i l.v
