use Rattle.dimacs_read.specs.Forms.{form_start, form_more, form_stops, form_done}
use Rattle.dimacs_read.proofs.form.formed.Goals as goal

pub loop-at-init : goal.loop-at-init
loop-at-init c = form_start _

pub returns-in_default : goal.returns-in_default
returns-in_default c = form_stops c.loop-at.invariant c.loop-at-test.true c.in_default.ensures

pub loop-at-preserved : goal.loop-at-preserved
loop-at-preserved c = form_more c.loop-at.invariant c.loop-at-test.true c.in-Some.ensures

pub returns : goal.returns
returns c = form_done _ c.loop-at.invariant c.loop-at-test.false
