use Rattle.std.proofs.Common.{sym, ap, ◌∙◌, bit_or}
use Rattle.two_choose.specs.Masks.{added}
use Rattle.two_choose.proofs.add_if.Goals as goal

pub returns-then-yes : goal.returns-then-yes
unfolding added
returns-then-yes c = ap (bit_or c.args.set) c.power.ensures ∙ sym (ap (added c.args.set c.args.j) c.if-yes.true)

pub returns-else-yes : goal.returns-else-yes
unfolding added
returns-else-yes c = sym (ap (added c.args.set c.args.j) c.if-yes.false)
