-- `cube_moves::sort` meets its contract. The loop's invariant: what `Sorting` says, of the rows passed. Assumes nothing.
use Rattle.cube_math.specs.Loops.{Sorting}
use Rattle.cube_rows.specs.Grid.{hops, target}
use Rattle.cube_moves.proofs.sort.Given as goal

abbrev pub invariant-loop-j : goal.invariant-loop-j
invariant-loop-j l = Sorting l.start.free l.start.s l.start.shut l.m l.j-iterator.0 l.left l.more (target l.w l.grid) (hops l.w l.grid)
