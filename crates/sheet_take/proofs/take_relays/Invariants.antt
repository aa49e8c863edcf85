-- `sheet_take::take_relays` meets its contract: the invariant is that i relays are taken. Assumes nothing.
use Rattle.sheet.specs.Format.{relays_at}
use Rattle.scan.specs.Runs.{Running}
use Rattle.sheet_take.proofs.take_relays.Given as goal

abbrev pub invariant-loop-i : goal.invariant-loop-i
invariant-loop-i l = Running (relays_at l.bytes l.at) l.to l.n l.initial.places l.places l.i
