-- `columns::cut` meets its contract: the invariant is that no pair passed is u, v, so that what is left decides. Assumes nothing.
use Rattle.std.proofs.Common.{◌≡◌, length}
use Rattle.paths.specs.Whole.{cut}
use Rattle.columns.proofs.cut.Given as goal

abbrev pub invariant-loop-rest : goal.invariant-loop-rest
invariant-loop-rest l = cut l.rest l.u l.v ≡ cut l.cuts l.u l.v

abbrev pub decreases-loop-rest : goal.decreases-loop-rest
decreases-loop-rest l = length l.rest
