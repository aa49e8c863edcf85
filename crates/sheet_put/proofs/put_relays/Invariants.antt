-- `sheet_put::put_relays` meets its contract: the invariant is that i relays are written. Assumes nothing.
use Rattle.sheet_put.specs.Putting.{Relayed}
use Rattle.sheet_put.proofs.put_relays.Given as goal

abbrev pub invariant-loop-i : goal.invariant-loop-i
invariant-loop-i l = Relayed l.places l.from l.n l.at l.initial.out l.out l.i
