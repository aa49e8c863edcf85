-- `book_open::gather` meets its contract: the pieces before `at` are gone through. Assumes nothing.
use Rattle.std.proofs.Common.{◌-◌, length}
use Rattle.book_open.specs.Opens.{Going}
use Rattle.book_open.proofs.gather.Given as goal

abbrev pub invariant-loop-at : goal.invariant-loop-at
invariant-loop-at l = Going l.bytes l.places l.initial.room l.room l.at l.n

abbrev pub decreases-loop-at : goal.decreases-loop-at
decreases-loop-at l = length l.bytes - l.at
