use Rattle.std.proofs.Common.{sym, subst, List, ℕ}
use Rattle.cube_math.specs.Doors.{In}
use Rattle.two_round.specs.Found.{passed_more, never}
use Rattle.two_round.proofs.find.Goals as goal

pub loop-y-preserved : goal.loop-y-preserved
loop-y-preserved c =
    passed_more c.loop-y.invariant c.loop-y-test.true (λ w. never _ c.in_default.ensures (subst (λ (l : List ℕ). In c.args.x l) (sym c.row.ensures) w))
