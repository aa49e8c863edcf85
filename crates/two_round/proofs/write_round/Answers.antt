-- `two_round::write_round` meets its contract: the blocks of the round trip are those of the mesh, and each takes up to m + 1 places.
-- Assumes nothing.
use Rattle.std.proofs.Common.{arith, length-set}
use Rattle.two_write.specs.Blocks.{order_small, base_fits}
use Rattle.two_round.specs.Around.{round-blocks, entered_room, rounded}
use Rattle.two_round.proofs.write_round.Goals as goal

pub flip-x-requires : goal.flip-x-requires
flip-x-requires c = omega (arith, order_small c.requires.0, c.requires)

pub flip-y-requires : goal.flip-y-requires
flip-y-requires c = omega (arith, order_small c.requires.0, c.requires)

pub flip-z-requires : goal.flip-z-requires
flip-z-requires c = omega (arith, order_small c.requires.0, c.requires)

pub write_block-p-requires : goal.write_block-p-requires
write_block-p-requires c =
    let blocks = round-blocks c.args.round.now.order _ _ _ c.requires.1 c.requires.2 c.requires.3 c.flip-x.ensures c.flip-y.ensures c.flip-z.ensures in
    (c.requires.0, blocks.0, c.requires.2, c.requires.3, simp length-set (omega (arith, c.requires)))

pub write_block-q-requires : goal.write_block-q-requires
write_block-q-requires c =
    let blocks = round-blocks c.args.round.now.order _ _ _ c.requires.1 c.requires.2 c.requires.3 c.flip-x.ensures c.flip-y.ensures c.flip-z.ensures in
    (c.requires.0, blocks.1, c.requires.3, c.requires.2, omega (arith, c.requires.4, simp length-set at c.write_block-p.auto.out, entered_room c.write_block-p.ensures))

pub write_block-r-requires : goal.write_block-r-requires
write_block-r-requires c =
    let blocks = round-blocks c.args.round.now.order _ _ _ c.requires.1 c.requires.2 c.requires.3 c.flip-x.ensures c.flip-y.ensures c.flip-z.ensures in
    let size = simp length-set at c.write_block-p.auto.out in
    (c.requires.0, blocks.2, c.requires.2, c.requires.3, omega (arith, c.requires.4, size, c.write_block-q.auto.out, entered_room c.write_block-p.ensures, entered_room c.write_block-q.ensures))

pub overflow_add-out : goal.overflow_add-out
overflow_add-out c = omega (arith, base_fits c.requires.0 c.requires.1, c.base.ensures, c.requires)

pub returns : goal.returns
returns c =
    rounded _ _ _ _ _ _ _ _ c.flip-x.ensures c.flip-y.ensures c.flip-z.ensures c.base.ensures c.write_block-p.ensures c.write_block-q.ensures c.write_block-r.ensures
