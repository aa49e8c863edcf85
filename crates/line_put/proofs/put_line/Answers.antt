-- `line_put::put_line` meets its contract: a list, then a line end. Assumes nothing.
use Rattle.line_put.specs.Writes.{end-put}
use Rattle.line_put.proofs.put_line.Goals as goal

pub returns : goal.returns
returns c = end-put _ c.put_list-p.ensures
