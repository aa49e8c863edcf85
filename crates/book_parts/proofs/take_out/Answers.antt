-- `book_parts::take_out` meets its contract: those after place i are moved down. Assumes nothing.
use Rattle.std.proofs.Common.{◌∙◌}
use Rattle.book_parts.specs.Moved.{closed_by}
use Rattle.book_parts.proofs.take_out.Goals as goal

pub returns : goal.returns
returns c = let a = c.args in c.copy_within.ensures.after ∙ closed_by a.index.now a.i a.n c.requires.0 c.requires.1
