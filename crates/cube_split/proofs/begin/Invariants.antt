-- `cube_split::begin` meets its contract. The loop's invariant: the first j rows hold their targets. Assumes nothing.
use Rattle.cube_split.specs.Fan.{Begun}
use Rattle.cube_split.proofs.begin.Given as goal

abbrev pub invariant-loop-j : goal.invariant-loop-j
invariant-loop-j l = Begun l.w l.targets l.j l.initial.grid l.grid
