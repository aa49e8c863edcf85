-- `dimacs_take::numbers` meets its contract, field by field. Assumes nothing.
use Rattle.std.proofs.Common.{refl, Some}
use Rattle.std.proofs.Math.Path.{ap}
use Rattle.line_take.specs.Reads.{as_field}
use Rattle.dimacs_take.specs.Takes.{first_lost, second_lost, last_lost, both}
use Rattle.dimacs_take.proofs.numbers.Goals as goal

pub returns-in_err-a : goal.returns-in_err-a
returns-in_err-a c = rw c.from_residual.ensures (first_lost _ _ c.in_err-a.ensures refl)

pub returns-in_default : goal.returns-in_default
returns-in_default c = first_lost _ _ (as_field (ap Some c.in_default.is) c.in_ok-a.ensures) refl

pub returns-in_err-b : goal.returns-in_err-b
returns-in_err-b c =
    rw c.from_residual-in_err-b.ensures (second_lost _ _ (as_field (ap Some c.in-Item.is) c.in_ok-a.ensures) c.in_err-b.ensures refl)

pub returns-in_default-2 : goal.returns-in_default-2
returns-in_default-2 c =
    second_lost _ _ (as_field (ap Some c.in-Item.is) c.in_ok-a.ensures) (as_field (ap Some c.in_default-2.is) c.in_ok-b.ensures) refl

pub returns-in_err-next_field : goal.returns-in_err-next_field
returns-in_err-next_field c =
    rw c.from_residual-in_err-next_field.ensures
    (last_lost _ _ (as_field (ap Some c.in-Item.is) c.in_ok-a.ensures) (as_field (ap Some c.in-Item-2.is) c.in_ok-b.ensures) c.in_err-next_field.ensures refl)

pub returns-in_default-3 : goal.returns-in_default-3
returns-in_default-3 c =
    last_lost _ _ (as_field (ap Some c.in-Item.is) c.in_ok-a.ensures) (as_field (ap Some c.in-Item-2.is) c.in_ok-b.ensures)
    (as_field (ap Some c.in_default-3.is) c.in_ok-next_field.ensures) refl

pub returns : goal.returns
returns c =
    both _ _ (as_field (ap Some c.in-Item.is) c.in_ok-a.ensures) (as_field (ap Some c.in-Item-2.is) c.in_ok-b.ensures)
    (as_field (ap Some c.in-End.is) c.in_ok-next_field.ensures)
