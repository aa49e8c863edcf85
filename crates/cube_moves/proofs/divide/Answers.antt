-- `cube_moves::divide` meets its contract. Assumes nothing.
use Rattle.std.proofs.Common.{refl}
use Rattle.cube_rows.specs.Grid.{rows-part}
use Rattle.cube_moves.specs.Halves.{halved, halved_room, home_chosen, divided}
use Rattle.cube_moves.proofs.divide.Goals as goal

pub parting-b-requires : goal.parting-b-requires
parting-b-requires c = (c.requires.0, c.requires.1, c.requires.2.differs)

pub flip-rest-requires : goal.flip-rest-requires
flip-rest-requires c = c.parting-b.ensures.small

pub home_of-home-requires : goal.home_of-home-requires
home_of-home-requires c = (rows-part c.alike-far.ensures.sub refl c.requires.0, c.parting-b.ensures.small)

pub stand_in-requires : goal.stand_in-requires
stand_in-requires c =
    let half = halved _ _ _ _ _ c.requires.2 _ _ _ _ _ _ c.parting-b.ensures c.flip-rest.ensures c.flip-f.ensures c.power-pow.ensures
    c.less-low.ensures c.alike-far.ensures in
    let chosen = home_chosen _ _ _ _ _ c.requires.2 _ _ _ _ _ half _ c.requires.3 c.home_of-home.ensures in
    (rows-part c.alike-far.ensures.sub refl c.requires.0, halved_room _ _ _ _ _ c.requires.2 _ _ _ _ _ half, chosen.sub)

pub returns : goal.returns
returns c =
    let half = halved _ _ _ _ _ c.requires.2 _ _ _ _ _ _ c.parting-b.ensures c.flip-rest.ensures c.flip-f.ensures c.power-pow.ensures
    c.less-low.ensures c.alike-far.ensures in
    let chosen = home_chosen _ _ _ _ _ c.requires.2 _ _ _ _ _ half _ c.requires.3 c.home_of-home.ensures in
    divided _ _ _ _ _ _ c.requires.2 c.requires.4 _ _ _ _ _ half _ _ c.requires.3 chosen c.stand_in.ensures
