-- `cube_rows::start` meets its contract. Assumes nothing.
use Rattle.std.proofs.Common.{arith, length-set}
use Rattle.cube_rows.specs.Grid.{start_sets}
use Rattle.cube_rows.proofs.start.Goals as goal

pub bounds-grid-at-2 : goal.bounds-grid-at-2
bounds-grid-at-2 c = simp length-set (omega arith)

pub returns : goal.returns
returns c = start_sets c.args.w c.args.grid.now c.args.j c.args.t c.requires.0 c.requires.1
