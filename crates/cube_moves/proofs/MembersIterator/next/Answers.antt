-- `Members::next` meets its contract: a member fewer is left. Assumes nothing.
use Rattle.std.proofs.Common.{◌<◌, ap, arith}
use Rattle.std.specs.Int.Count.{ones}
use Rattle.bits.specs.Laws.{ones_clear}
use Rattle.cube_moves.proofs.MembersIterator.next.Goals as goal

pub returns-clause-goes : goal.returns-clause-goes
returns-clause-goes c =
    let fewer : ones c.flip-self.result < ones c.args.self.now.0 =
    omega (arith, ap ones c.flip-self.ensures, ones_clear _ c.args.self.now.0 c.lowest-j.ensures.set) in
    record { on = λ u. (tt, tt, fewer); keeps = tt; rests = λ u. tt }
