-- `two_round::plan` meets its contract: the invariant is `Going`. Assumes nothing.
use Rattle.two_round.specs.Found.{row_of, hops_of}
use Rattle.two_round.specs.Going.{Going}
use Rattle.two_round.proofs.plan.Given as goal

abbrev pub invariant-loop-j : goal.invariant-loop-j
invariant-loop-j l =
    let r = l.round in
    Going r.order r.source r.width l.targets l.initial.places l.initial.counts r.block r.slot r.to (row_of r.order r.cut) (hops_of r.cut) l.grid l.places l.counts l.j
