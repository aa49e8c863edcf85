use Rattle.std.proofs.Common.{refl}
use Rattle.two_write.specs.Blocks.{crossing-room, crossing-block, crossing-more, crossing_done}
use Rattle.two_write.proofs.write_blocks.Goals as goal

pub write_block-next-requires : goal.write_block-next-requires
write_block-next-requires c =
    let way = c.requires.1 in
    let k = c.loop-i.invariant _ way in (
      way.order,
      crossing-block way c.loop-i.i c.loop-i-test.true,
      k.slot_in,
      (c.exit-door.ensures _ _ _ _ _ way).within,
      crossing-room _ _ _ _ _ _ _ way _ _ _ _ k c.loop-i-test.true,
    )

pub loop-i-preserved : goal.loop-i-preserved
loop-i-preserved c = λ s0 way.
    crossing-more _ _ _ _ _ _ _ way _ _ _ _ (c.loop-i.invariant s0 way) c.loop-i-test.true _ _ _ _
    refl (c.exit-door.ensures _ _ _ _ _ way) c.write_block-next.ensures

pub returns : goal.returns
returns c = λ s0 way. crossing_done _ _ _ _ _ _ _ way _ _ _ _ (c.loop-i.invariant s0 way) c.loop-i-test.false
