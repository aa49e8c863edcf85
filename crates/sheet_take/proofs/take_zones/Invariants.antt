-- `sheet_take::take_zones` meets its contract: the invariant is that the zones of i paths are taken. Assumes nothing.
use Rattle.sheet_take.specs.Zoning.{Zoning}
use Rattle.sheet_take.proofs.take_zones.Given as goal

abbrev pub invariant-loop-i : goal.invariant-loop-i
invariant-loop-i l = Zoning l.version l.bytes l.k l.initial.zones l.zones l.at l.i
