-- `line_put::put_path` meets its contract: the hops, then the relays. Assumes nothing.
use Rattle.decimal.specs.Write.{put_then}
use Rattle.line_put.proofs.put_path.Goals as goal

pub returns : goal.returns
returns c = put_then c.put-p.ensures c.put_line.ensures
