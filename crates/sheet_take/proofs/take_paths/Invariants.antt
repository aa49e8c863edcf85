-- `sheet_take::take_paths` meets its contract: the invariant is that the first i paths are taken. Assumes nothing.
use Rattle.sheet_take.specs.Taking.{Taking}
use Rattle.sheet_take.proofs.take_paths.Given as goal

abbrev pub invariant-loop-i : goal.invariant-loop-i
invariant-loop-i l = Taking l.version l.bytes l.source l.longest l.k l.initial.places l.initial.counts l.initial.targets l.places l.counts l.targets l.at l.i
