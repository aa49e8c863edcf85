use Rattle.std.proofs.Common.{◌≤◌, length}
use Rattle.around_search.specs.Room.{Cleared}
use Rattle.around_search.proofs.queue.clear.Given as goal

abbrev pub invariant-loop-x : goal.invariant-loop-x
invariant-loop-x l = (l.relays ≤ length l.room) × Cleared l.relays l.stopped l.x-index (length l.initial.room) l.room
