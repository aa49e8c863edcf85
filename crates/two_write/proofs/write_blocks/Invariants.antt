-- `two_write::write_blocks` meets its contract: the invariant is `Crossing`. Assumes nothing.
use Rattle.std.proofs.Common.{ℕ, length}
use Rattle.two_write.specs.Blocks.{Ways, Crossing}
use Rattle.two_write.proofs.write_blocks.Given as goal

abbrev pub invariant-loop-i : goal.invariant-loop-i
invariant-loop-i l = (s0 : ℕ) → Ways l.m s0 l.blocks l.leave l.last l.at (length l.initial.out) → Crossing l.m s0 l.blocks l.leave l.last l.at l.initial.out l.out l.slot l.next l.i
