-- `two_general::leaves_of` meets its contract. Assumes nothing.
use Rattle.two_general.specs.Filled.{Filled}
use Rattle.two_general.specs.Draft.{Leaves}
use Rattle.two_general.proofs.leaves_of.Given as goal

abbrev pub invariant-loop-j : goal.invariant-loop-j
invariant-loop-j l = Filled 16 l.j (Leaves l.home.block l.home.slot l.targets.slots l.choice l.taken l.ways) l.leaves
