-- `line_put::put_word` meets its contract. Assumes nothing.
use Rattle.line_put.specs.Writes.{word-put}
use Rattle.line_put.proofs.put_word.Goals as goal

pub returns : goal.returns
returns c = word-put _ _ c.copy_from_slice.ensures.after c.requires
