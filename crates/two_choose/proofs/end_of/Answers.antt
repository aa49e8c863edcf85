-- `two_choose::end_of` meets its contract. Assumes nothing.
use Rattle.std.proofs.Common.{ap, sym}
use Rattle.two_choose.specs.Doors.{end_of}
use Rattle.two_choose.proofs.end_of.Goals as goal

pub returns-then-gated : goal.returns-then-gated
unfolding end_of
returns-then-gated c = sym (ap (end_of c.args.block c.args.behind) c.if-gated.true)

pub returns-else-gated : goal.returns-else-gated
unfolding end_of
returns-else-gated c = sym (ap (end_of c.args.block c.args.behind) c.if-gated.false)
