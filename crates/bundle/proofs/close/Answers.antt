-- `bundle::close` meets its contract: the row is moved, a place more is not used, and the target stands after its end. Assumes nothing.
use Rattle.std.proofs.Common.{arith, length-set}
use Rattle.bundle.specs.Closing.{closable_kept, row_bare, row-closed}
use Rattle.bundle.proofs.close.Goals as goal

pub returns-then-end-target : goal.returns-then-end-target
returns-then-end-target c =
    row_bare _ _ _ _ _ _ _ _ (closable_kept c.shift.auto.places c.requires) c.shift.ensures c.if-end-target.true

pub bounds-places-to-2 : goal.bounds-places-to-2
bounds-places-to-2 c =
    simp length-set (omega (arith, c.requires.short, c.requires.more, c.shift.auto.places))

pub returns : goal.returns
returns c =
    row-closed _ _ _ _ _ _ _ _ (closable_kept c.shift.auto.places c.requires) c.shift.ensures (omega arith)
