-- The loop of `entries::store`: i entries stand at the front of the list, and what follows is as it was.
use Rattle.std.proofs.Common.{◌≡◌, ◌++◌, drop}
use Rattle.entries.specs.Says.{entries}
use Rattle.entries.specs.Gathered.{entry_at}
use Rattle.entries.proofs.store.Given as goal

abbrev pub invariant-loop-i : goal.invariant-loop-i
invariant-loop-i l = l.out ≡ entries (entry_at l.g) l.i ++ drop l.i l.initial.out
