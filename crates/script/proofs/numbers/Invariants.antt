-- No more is written than `out` holds.
use Rattle.std.proofs.Common.{length, ◌≤◌}
use Rattle.script.proofs.numbers.Given as goal

abbrev pub invariant-loop-word : goal.invariant-loop-word
invariant-loop-word l = l.n ≤ length l.out
