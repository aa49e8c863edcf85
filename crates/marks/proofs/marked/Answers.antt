-- `marks::marked` meets its contract: the relay's word has both bits of its mark. Assumes nothing.
use Rattle.std.proofs.Common.{◌∙◌}
use Rattle.marks.specs.Marks.{first_at, second_at}
use Rattle.marks.specs.Laws.{first-told, second-told}
use Rattle.marks.proofs.marked.Goals as goal

pub returns-then-bit : goal.returns-then-bit
unfolding first_at second_at
returns-then-bit c =
    let a = c.args in
    second-told a.marks.now a.x c.scatter-s.ensures c.word.ensures.0 c.place.ensures.0 c.place-then-bit.ensures.0 c.bit.ensures c.if-bit.true c.bit-then-bit.ensures

pub returns-else-bit : goal.returns-else-bit
unfolding first_at
returns-else-bit c =
    let a = c.args in
    c.if-bit.false
    ∙ first-told a.marks.now a.x c.scatter-s.ensures c.word.ensures.0 c.place.ensures.0 c.bit.ensures c.if-bit.false
