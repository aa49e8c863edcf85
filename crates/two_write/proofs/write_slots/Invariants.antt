-- `two_write::write_slots` meets its contract: the invariant is `Slotting`. Assumes nothing.
use Rattle.two_write.specs.Slots.{Slotting}
use Rattle.two_write.proofs.write_slots.Given as goal

abbrev pub invariant-loop-i : goal.invariant-loop-i
invariant-loop-i l = Slotting l.first l.slots l.at l.initial.out l.out l.i
