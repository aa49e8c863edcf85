-- `cube_moves::bring_home` meets its contract. Assumes nothing.
use Rattle.std.proofs.Common.{ap, arith, length}
use Rattle.cube_moves.specs.Bring.{homes_is}
use Rattle.cube_moves.proofs.bring_home.Goals as goal

pub push-requires : goal.push-requires
push-requires c =
    (omega (arith, c.requires.2, c.start.ensures.only.long), omega (arith, c.requires.1, ap length c.start.ensures.is))

pub push-requires-2 : goal.push-requires-2
push-requires-2 c =
    (omega (arith, c.requires.2, c.start.ensures.only.long, c.push.ensures.only.long), omega (arith, c.requires.1, ap length c.push.ensures.is, ap length c.start.ensures.is))

pub returns : goal.returns
returns c =
    homes_is _ _ _ _ _ _ _ _ _ _ c.first-v.ensures c.start.ensures c.push.ensures c.flip.ensures c.push-2.ensures
