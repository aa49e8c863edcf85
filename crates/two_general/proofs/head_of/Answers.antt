-- `two_general::head_of` meets its contract. Assumes nothing.
use Rattle.std.proofs.Common.{◌∙◌, sym}
use Rattle.two_general.specs.Path.{head-on, head_off}
use Rattle.two_general.proofs.head_of.Goals as goal

pub returns-then-walks : goal.returns-then-walks
returns-then-walks c = c.row.ensures ∙ sym (head-on _ c.if-walks.true)

pub returns : goal.returns
returns c = sym (head_off _ c.if-walks.false)
