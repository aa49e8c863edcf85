-- `graph_line::put_refused` meets its contract: a word, two numbers and a line end. Assumes nothing.
use Rattle.std.proofs.Common.{arith}
use Rattle.graph_line.specs.Names.{refusal-short}
use Rattle.graph_line.proofs.put_refused.Goals as goal

pub put_head-requires : goal.put_head-requires
put_head-requires c = omega (arith, refusal-short c.args.number c.args.place c.ranges.number.fits c.ranges.place.fits, c.requires)
