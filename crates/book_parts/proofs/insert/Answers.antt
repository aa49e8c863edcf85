-- `book_parts::insert` meets its contract: those from i on are moved up, and x is put before them. Assumes nothing.
use Rattle.std.proofs.Common.{ap, ◌∙◌, set, List, ℕ}
use Rattle.book_parts.specs.Moved.{opened_by}
use Rattle.book_parts.proofs.insert.Goals as goal

pub returns : goal.returns
returns c = let a = c.args in ap (λ (l : List ℕ). set l a.i a.x) c.copy_within.ensures.after ∙ opened_by a.index.now a.i a.n a.x c.requires.0 c.requires.1
