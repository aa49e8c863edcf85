-- `judge_rows::on` meets its contract: the path lies within the places. Assumes nothing.
use Rattle.std.proofs.Common.{arith}
use Rattle.paths.specs.Fan.{hops}
use Rattle.paths.specs.Finding.{on}
use Rattle.judge_rows.proofs.on.Goals as goal

pub overflow_add-h : goal.overflow_add-h
unfolding hops
overflow_add-h c = omega (arith, c.requires.row.short, c.requires.row.room)

pub among-requires : goal.among-requires
unfolding hops
among-requires c = omega (arith, c.requires.row.short, c.requires.row.room)

pub returns : goal.returns
unfolding on hops
returns c = c.among.ensures
