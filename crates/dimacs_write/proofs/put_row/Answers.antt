use Rattle.std.proofs.Common.{arith}
use Rattle.dimacs.specs.Pieces.{each_start, each-put}
use Rattle.dimacs.specs.Needs.{linking}
use Rattle.dimacs_write.specs.Writes.{row_room, row_done}
use Rattle.dimacs_write.proofs.put_row.Goals as goal

pub loop-i-init : goal.loop-i-init
loop-i-init c = each_start _ _ _ _

pub put_link-p-requires : goal.put_link-p-requires
put_link-p-requires c =
    record {
      linking = linking c.requires.rowed c.loop-i-test.true;
      i_in_bounds = row_room c.requires.rowed c.loop-i.invariant c.loop-i-test.true c.requires.u_in_bounds;
    }

pub loop-i-preserved : goal.loop-i-preserved
loop-i-preserved c = each-put _ _ _ _ c.loop-i.invariant c.loop-i-test.true c.put_link-p.ensures

pub returns : goal.returns
returns c = row_done c.requires.rowed c.loop-i.invariant (omega arith)
