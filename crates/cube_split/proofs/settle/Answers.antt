-- `cube_split::settle` meets its contract. Assumes nothing.
use Rattle.std.proofs.Common.{◌+◌, ◌-◌, refl, arith, get_or}
use Rattle.cube_split.specs.Fan.{filled, settled}
use Rattle.cube_split.proofs.settle.Goals as goal

pub fill-requires : goal.fill-requires
fill-requires c = omega (arith, c.requires.0, c.requires.1, c.shift.auto.places)

pub bounds-places-at-2 : goal.bounds-places-at-2
bounds-places-at-2 c = omega (arith, c.requires.0, c.requires.1, c.fill.auto.list, c.shift.auto.places)

pub returns : goal.returns
returns c =
    let a = c.args in
    let n = get_or a.places.now a.at 0 in
    settled _ _ _ _ _ _ _ _ refl c.requires.0 (omega (arith, c.requires.0, c.requires.1, c.fill.auto.list, c.shift.auto.places)) refl c.shift.ensures
    (filled (a.at + 1 + n) (a.w - 1 - n) (a.at + a.w) (omega (arith, c.requires.0)) (omega (arith, c.requires.1, c.shift.auto.places)) c.fill.ensures)
