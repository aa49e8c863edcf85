-- `dimacs_marks::link_to` meets its contract: no link that is passed leads there. Assumes nothing.
use Rattle.std.proofs.Common.{ℕ, ◌<◌, ◌≢◌}
use Rattle.mesh.specs.Kinds.{kind_of}
use Rattle.dimacs_marks.proofs.link_to.Given as goal

abbrev pub invariant-loop-i : goal.invariant-loop-i
invariant-loop-i l = (j : ℕ) → j < l.i → (kind_of l.mesh.kind).near l.mesh.size l.u j ≢ l.v
