-- `struck::struck` meets its contract: what the paths have is marked, and then what of it is listed. Assumes nothing.
use Rattle.struck.specs.Laws.{struck-none, struck-all}
use Rattle.struck.proofs.struck.Goals as goal

pub returns-then-list-d : goal.returns-then-list-d
returns-then-list-d c =
    let a = c.args in
    λ i l. struck-none a.w a.places.now a.counts.now a.list.now a.d i c.requires.hit_len c.if-list-d.true

pub returns : goal.returns
returns c =
    let a = c.args in
    λ i l. struck-all a.w a.places.now a.counts.now a.list.now a.d i l c.note.ensures c.hits.ensures
