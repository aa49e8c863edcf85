-- `struck::hits` meets its contract: the invariant is that what was passed is marked where the paths have it. Assumes nothing.
use Rattle.struck.specs.Laws.{Passing}
use Rattle.struck.proofs.hits.Given as goal

abbrev pub invariant-loop-j : goal.invariant-loop-j
invariant-loop-j l = Passing l.list l.d l.paths l.hit l.j
