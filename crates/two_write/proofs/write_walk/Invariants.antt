use Rattle.cube_math.specs.Single.{rank}
use Rattle.two_write.specs.Walked.{Going}
use Rattle.two_write.proofs.write_walk.Given as goal

abbrev pub invariant-loop-here : goal.invariant-loop-here
invariant-loop-here l = Going l.m l.base l.p l.q l.at l.initial.out l.out l.here l.i

abbrev pub decreases-loop-here : goal.decreases-loop-here
decreases-loop-here l = rank l.q l.here
