-- `two_general::draw` meets its contract: each call is asked what the calls before it give. Assumes nothing.
use Rattle.two_general.specs.Draft.{over_ask}
use Rattle.two_general.specs.Draws.{blocks_ask, planned, all-inside, head_ask, held, writes, painted}
use Rattle.two_general.proofs.draw.Goals as goal

pub plan_rows-requires : goal.plan_rows-requires
plan_rows-requires c = blocks_ask c.requires c.choose-choice.ensures _ c.block_bits.ensures

pub take_over-taken-requires : goal.take_over-taken-requires
take_over-taken-requires c = over_ask (planned c.requires c.choose-choice.ensures _ c.block_bits.ensures c.plan_rows.ensures)

pub leaves_of-leaves-requires : goal.leaves_of-leaves-requires
leaves_of-leaves-requires c = all-inside c.requires (planned c.requires c.choose-choice.ensures _ c.block_bits.ensures c.plan_rows.ensures) c.take_over-taken.ensures

pub plan_rows-requires-2 : goal.plan_rows-requires-2
plan_rows-requires-2 c =
    rw c.from.ensures (head_ask c.requires (planned c.requires c.choose-choice.ensures _ c.block_bits.ensures c.plan_rows.ensures) c.take_over-taken.ensures c.leaves_of-leaves.ensures c.walkers_of-walkers.ensures _ c.dimensions.ensures)

pub write_paths-requires : goal.write_paths-requires
write_paths-requires c =
    writes c.requires (held c.requires (planned c.requires c.choose-choice.ensures _ c.block_bits.ensures c.plan_rows.ensures) c.take_over-taken.ensures c.leaves_of-leaves.ensures c.walkers_of-walkers.ensures _ c.dimensions.ensures (rw c.from.ensures at c.plan_rows-2.ensures))

pub returns : goal.returns
returns c =
    painted (held c.requires (planned c.requires c.choose-choice.ensures _ c.block_bits.ensures c.plan_rows.ensures) c.take_over-taken.ensures c.leaves_of-leaves.ensures c.walkers_of-walkers.ensures _ c.dimensions.ensures (rw c.from.ensures at c.plan_rows-2.ensures)) c.write_paths.ensures
