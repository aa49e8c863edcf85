use Rattle.std.proofs.Common.{arith}
use Rattle.dimacs.specs.Pieces.{each_start, each-put}
use Rattle.dimacs_size.specs.Sizes.{rowed}
use Rattle.dimacs_write.specs.Writes.{rows-room, rows_done}
use Rattle.dimacs_write.proofs.put_rows.Goals as goal

pub loop-u-init : goal.loop-u-init
loop-u-init c = each_start _ _ _ _

pub put_row-p-requires : goal.put_row-p-requires
put_row-p-requires c =
    record {
      rowed = rowed c.requires.rows c.loop-u-test.true;
      u_in_bounds = rows-room c.requires.rows c.loop-u.invariant c.loop-u-test.true c.requires.size_in_bounds;
    }

pub loop-u-preserved : goal.loop-u-preserved
loop-u-preserved c = each-put _ _ _ _ c.loop-u.invariant c.loop-u-test.true c.put_row-p.ensures

pub returns : goal.returns
returns c = rows_done c.requires.rows c.loop-u.invariant (omega arith)
