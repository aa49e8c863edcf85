-- `two_round::find` meets its contract: the invariant is `Passed`. Assumes nothing.
use Rattle.two_round.specs.Found.{Passed}
use Rattle.two_round.proofs.find.Given as goal

abbrev pub invariant-loop-y : goal.invariant-loop-y
invariant-loop-y l = Passed l.m l.grid l.x l.y
