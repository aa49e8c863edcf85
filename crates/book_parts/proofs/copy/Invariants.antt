-- `book_parts::copy` meets its contract: q bytes are copied. Assumes nothing.
use Rattle.std.proofs.Common.{◌+◌, ◌-◌, ◌≤◌, refl, arith, length, rules}
use Rattle.book_parts.specs.Moved.{Copied, copied_none, copied_more, copied_all}
use Rattle.book_parts.proofs.copy.Given as goal

abbrev pub invariant-loop-q : goal.invariant-loop-q
invariant-loop-q l = (l.at + length l.bytes ≤ length l.initial.out) × Copied l.bytes l.at l.initial.out l.out l.q
