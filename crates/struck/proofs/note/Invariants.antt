-- `struck::note` meets its contract: the invariant is that what the paths passed have is marked. Assumes nothing.
use Rattle.marks.specs.Noted.{Noted}
use Rattle.struck.specs.Struck.{thing, things}
use Rattle.struck.proofs.note.Given as goal

abbrev pub invariant-loop-i : goal.invariant-loop-i
invariant-loop-i l = Noted (thing l.w l.places l.d) (things l.counts l.d) l.marks l.i 0
