-- `marks::put` meets its contract: the relay's word gets both bits of its mark. Assumes nothing.
use Rattle.marks.specs.Marks.{first_at, second_at}
use Rattle.marks.specs.Laws.{put-told}
use Rattle.marks.proofs.put.Goals as goal

pub returns : goal.returns
unfolding first_at second_at
returns c =
    let a = c.args in
    put-told a.marks.now a.x c.scatter-s.ensures c.word-i.ensures.0 c.place.ensures.0 c.place-2.ensures.0 c.power-one.ensures c.power-other.ensures
