-- `cube_rows::push` meets its contract. Assumes nothing.
use Rattle.std.proofs.Common.{arith, length-set, rules}
use Rattle.cube_rows.specs.Grid.{push_sets, room-few}
use Rattle.cube_rows.proofs.push.Goals as goal

pub overflow_sub-grid-2 : goal.overflow_sub-grid-2
overflow_sub-grid-2 c = let a = c.args in let few = room-few a.w a.grid.now a.j c.requires.1 in search rules

pub overflow_add-grid-2 : goal.overflow_add-grid-2
overflow_add-grid-2 c = let a = c.args in let few = room-few a.w a.grid.now a.j c.requires.1 in search rules

pub bounds-grid-at-3 : goal.bounds-grid-at-3
bounds-grid-at-3 c =
    let a = c.args in
    simp length-set (omega (arith, c.requires.0, room-few a.w a.grid.now a.j c.requires.1))

pub returns : goal.returns
returns c = let a = c.args in push_sets a.w a.grid.now a.j a.v c.requires.0 c.requires.1
