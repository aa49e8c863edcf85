-- `book_parts::place` meets its contract: what is left of the search finds what the whole would. Assumes nothing.
use Rattle.book_parts.specs.Place.{Halving}
use Rattle.book_parts.proofs.place.Given as goal

abbrev pub invariant-loop-left : goal.invariant-loop-left
invariant-loop-left l = Halving l.index l.n l.x l.from l.left

abbrev pub decreases-loop-left : goal.decreases-loop-left
decreases-loop-left l = l.left
