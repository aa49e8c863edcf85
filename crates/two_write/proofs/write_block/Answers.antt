-- `two_write::write_block` meets its contract. Assumes nothing.
use Rattle.std.proofs.Common.{arith, length-set}
use Rattle.two_write.specs.Blocks.{base_fits, entered}
use Rattle.two_write.proofs.write_block.Goals as goal

pub overflow_add-out : goal.overflow_add-out
overflow_add-out c = omega (arith, base_fits c.requires.0 c.requires.1, c.base-first.ensures)

pub write_walk-requires : goal.write_walk-requires
write_walk-requires c =
    record {
      order = c.requires.0;
      from = c.requires.2;
      to = c.requires.3;
      fits = omega (arith, base_fits c.requires.0 c.requires.1, c.base-first.ensures);
      room = simp length-set (omega arith);
    }

pub returns : goal.returns
returns c = entered _ c.base-first.ensures c.write_walk.ensures
