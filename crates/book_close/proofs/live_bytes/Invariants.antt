-- `book_close::live_bytes` meets its contract: the live bytes before `at` are counted. Assumes nothing.
use Rattle.std.proofs.Common.{◌+◌, ◌-◌, arith, rules}
use Rattle.book_close.specs.Slides.{Counting, counting_starts, counting_more, counting_ends}
use Rattle.book_close.specs.Slides as slides
use Rattle.book_close.proofs.live_bytes.Given as goal

abbrev pub invariant-loop-at : goal.invariant-loop-at
invariant-loop-at l = Counting l.bytes l.end l.at l.sum

abbrev pub decreases-loop-at : goal.decreases-loop-at
decreases-loop-at l = l.end - l.at
