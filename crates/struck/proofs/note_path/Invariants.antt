-- `struck::note_path` meets its contract: the invariant is that what the path has before place p is marked. Assumes nothing.
use Rattle.marks.specs.Noted.{Noted}
use Rattle.struck.specs.Struck.{thing, things}
use Rattle.struck.proofs.note_path.Given as goal

abbrev pub invariant-loop-p : goal.invariant-loop-p
invariant-loop-p l = Noted (thing l.w l.places l.d) (things l.counts l.d) l.marks l.i l.p
