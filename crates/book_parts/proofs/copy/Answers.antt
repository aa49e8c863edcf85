-- `book_parts::copy` meets its contract: the bytes are put in their place one by one. Assumes nothing.
use Rattle.std.proofs.Common.{◌+◌, ◌-◌, ◌≤◌, refl, arith, length, rules}
use Rattle.book_parts.specs.Moved.{Copied, copied_none, copied_more, copied_all}
use Rattle.book_parts.proofs.copy.Goals as goal

pub loop-q-init : goal.loop-q-init
loop-q-init c = (c.requires, copied_none _ _ _)

pub loop-q-preserved : goal.loop-q-preserved
loop-q-preserved c = let inv = c.loop-q.invariant in (inv.0, copied_more inv.1 c.loop-q-test.true refl)

pub returns : goal.returns
returns c = copied_all c.loop-q.invariant.1 c.loop-q-test.false
