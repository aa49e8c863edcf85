-- `dimacs_size::width` meets its contract: each turn counts a digit (`Widening`). Assumes nothing.
use Rattle.dimacs_size.specs.Sizes.{Widening}
use Rattle.dimacs_size.proofs.width.Given as goal

abbrev pub invariant-loop-rest : goal.invariant-loop-rest
invariant-loop-rest l = Widening l.n l.rest l.k

abbrev pub decreases-loop-rest : goal.decreases-loop-rest
decreases-loop-rest l = l.rest
