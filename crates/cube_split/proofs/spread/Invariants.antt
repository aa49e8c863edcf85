-- `cube_split::spread` meets its contract. The loop's invariant: the first j rows are paths, the others are as they were. Assumes nothing.
use Rattle.cube_split.specs.Fan.{Spread}
use Rattle.cube_split.proofs.spread.Given as goal

abbrev pub invariant-loop-j : goal.invariant-loop-j
invariant-loop-j l = Spread l.s l.w l.j l.initial.places l.places l.initial.counts l.counts
