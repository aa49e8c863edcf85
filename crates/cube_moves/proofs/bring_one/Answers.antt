-- `cube_moves::bring_one` meets its contract. Assumes nothing.
use Rattle.cube_moves.specs.Bring.{turns_is}
use Rattle.cube_moves.proofs.bring_one.Goals as goal

pub returns : goal.returns
returns c = turns_is _ _ _ _ _ _ _ _ c.first-v.ensures c.flip.ensures c.push.ensures
