-- `line_put::put_head` meets its contract: a word, then a line. Assumes nothing.
use Rattle.decimal.specs.Write.{put_then}
use Rattle.line_put.proofs.put_head.Goals as goal

pub returns : goal.returns
returns c = put_then c.put_word-p.ensures c.put_line.ensures
