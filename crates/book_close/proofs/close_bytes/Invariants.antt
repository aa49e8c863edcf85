-- `book_close::close_bytes` meets its contract: the live pieces before `at` have moved down. Assumes nothing.
use Rattle.std.proofs.Common.{ℕ, ◌+◌, ◌-◌, ◌≤◌, ◌≡◌, ap, ◌∙◌, subst, sym, Bool, true, false, List, arith, rules, length, take, drop}
use lib.Seq.{sets}
use Rattle.scan.specs.Scan.{pick}
use Rattle.book.specs.Pieces.{live}
use Rattle.book_close.specs.Slides.{Sliding, sliding_starts, sliding_long, sliding_piece, sliding_more, sliding_ends}
use Rattle.book_close.proofs.close_bytes.Given as goal

abbrev pub invariant-loop-at : goal.invariant-loop-at
invariant-loop-at l = Sliding l.initial.bytes l.end l.bytes l.at l.to

abbrev pub decreases-loop-at : goal.decreases-loop-at
decreases-loop-at l = l.end - l.at
