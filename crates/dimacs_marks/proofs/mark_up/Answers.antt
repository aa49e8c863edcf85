-- `dimacs_marks::mark_up` meets its contract: no relay, no link, or its mark. Assumes nothing.
use Rattle.dimacs_marks.specs.Marks.{not-linked, marks-link}
use Rattle.dimacs_marks.proofs.mark_up.Goals as goal

pub returns-in_default : goal.returns-in_default
returns-in_default c = not-linked c.requires.rows _ _ c.in_default.ensures

pub returns : goal.returns
returns c = marks-link c.requires.rows _ _ c.if-a-eq0.false c.requires.seen_len.1 c.if-relays-b.false c.in-Some.ensures c.requires.seen_len.0 c.put.ensures
