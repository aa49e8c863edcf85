-- `columns::copy` meets its contract: the invariant is that the values passed are copied. Assumes nothing.
use Rattle.std.proofs.Common.{ℕ, ◌≤◌, take}
use Rattle.columns.specs.Laws.{Filling}
use Rattle.columns.proofs.copy.Given as goal

abbrev pub invariant-loop-i : goal.invariant-loop-i
invariant-loop-i g l = Filling (take l.i l.from) l.i l.initial.to l.to
