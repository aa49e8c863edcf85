-- `cube_rows::first` meets its contract. Assumes nothing.
use Rattle.std.proofs.Common.{arith, rules}
use Rattle.cube_rows.specs.Grid.{first_is, room-few, some-relay}
use Rattle.cube_rows.proofs.first.Goals as goal

pub overflow_sub-result : goal.overflow_sub-result
overflow_sub-result c =
    let a = c.args in
    let few = room-few a.w a.grid.now a.j c.requires.1 in
    search rules

pub bounds-grid-at-2 : goal.bounds-grid-at-2
bounds-grid-at-2 c =
    let a = c.args in
    omega (arith, c.requires.0, room-few a.w a.grid.now a.j c.requires.1, some-relay a.w a.grid.now a.j c.requires.2)

pub returns : goal.returns
returns c = λ x l e. let a = c.args in first_is a.w a.grid.now a.j x l c.requires.1 e
