use Rattle.around_search.specs.Trace.{Downs, Missed}
use Rattle.around_search.proofs.ways.down.Given as goal

abbrev pub invariant-loop-i : goal.invariant-loop-i
invariant-loop-i l = Downs l.mesh.kind l.mesh.size l.links l.u l.want l.lent × Missed l.mesh.kind l.mesh.size l.u l.want l.lent l.i
