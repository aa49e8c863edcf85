-- `book_close::close_index` meets its contract: i places have followed, and those ahead are as they were. Assumes nothing.
use Rattle.std.proofs.Common.{◌≤◌, length, take}
use Rattle.book.specs.Closed.{slid}
use Rattle.book_close.specs.Slides.{Following}
use Rattle.book_close.proofs.close_index.Given as goal

abbrev pub invariant-loop-i : goal.invariant-loop-i
invariant-loop-i l = (l.end ≤ length l.bytes) × Following (slid (take l.end l.bytes)) l.initial.index l.n l.index l.i
