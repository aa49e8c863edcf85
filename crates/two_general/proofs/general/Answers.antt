-- `two_general::general` meets its contract: the targets are taken apart, and their paths drawn. Assumes nothing.
use Rattle.two_general.specs.General.{general_draws, general_drawn}
use Rattle.two_general.proofs.general.Goals as goal

pub draw-requires : goal.draw-requires
draw-requires c = let t = c.taken_apart.ensures in general_draws c.requires t.blocks t.slots c.block_of.ensures c.slot_of.ensures _ t.count

pub returns : goal.returns
returns c = let t = c.taken_apart.ensures in general_drawn c.requires t.blocks t.slots c.block_of.ensures c.slot_of.ensures _ t.count c.draw.ensures
