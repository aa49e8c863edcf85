-- `bundle::end_of` meets its contract. Assumes nothing.
use Rattle.std.proofs.Common.{eq-eqb, ne_eqb}
use Rattle.bundle.proofs.end_of.Goals as goal

pub returns-then-linked-source : goal.returns-then-linked-source
returns-then-linked-source c = simp (eq-eqb _ _ c.if-linked-source.true)

pub returns-else-linked-source : goal.returns-else-linked-source
returns-else-linked-source c = simp (ne_eqb _ _ c.if-linked-source.false)
