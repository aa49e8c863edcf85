-- `book_open::steps::keep` meets its contract: the places are put at the front. Assumes nothing.
use Rattle.std.proofs.Common.{ap, ◌∙◌, arith, length-take-le}
use Rattle.std.proofs.lemmas.List.Edits.{sets}
use Rattle.book_parts.specs.Moved.{part_put}
use Rattle.book_open.proofs.steps.keep.Goals as goal

pub returns : goal.returns
returns c =
    let a = c.args in
    part_put a.index.now c.copy_from_slice.new.self 0 a.n (c.copy_from_slice.ensures.len ∙ length-take-le a.n a.index.now c.requires.1) (omega arith)
    ∙ ap (sets a.index.now 0) c.copy_from_slice.ensures.after
