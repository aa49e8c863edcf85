-- `cube_moves::alike` meets its contract. The loop's invariant: of the rows passed those are picked whose target agrees with f. Assumes nothing.
use Rattle.cube_rows.specs.Grid.{target}
use Rattle.cube_moves.specs.Cut.{Like, Unlike, Picking}
use Rattle.cube_moves.proofs.alike.Given as goal

abbrev pub invariant-loop-j : goal.invariant-loop-j
invariant-loop-j l = Picking (Like (target l.w l.grid) l.f l.mask) (Unlike (target l.w l.grid) l.f l.mask) l.m l.j-iterator.0 l.r
