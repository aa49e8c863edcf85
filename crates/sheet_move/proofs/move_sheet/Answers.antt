-- `sheet_move::move_sheet` meets its contract: what is wrong with the sheet, else the sheet in the other version. Assumes nothing.
use Rattle.std.proofs.lemmas.Result.{err_from_is_err_and}
use Rattle.sheet.specs.Says.{version_number}
use Rattle.sheet_check.specs.Bodied.{body-known}
use Rattle.sheet_move.specs.Moving.{move_flawed, move_bodied, move_asked}
use Rattle.sheet_move.proofs.move_sheet.Goals as goal

pub returns-in_err-head : goal.returns-in_err-head
returns-in_err-head c =
    let a = c.args in
    let p = err_from_is_err_and c.from_residual.result c.from_residual.ensures.1 in
    rw (p.1, p.2) (move_flawed (version_number a.from) (version_number a.to) a.bytes.now a.out.now _ (rw c.number.ensures at c.in_err-head.ensures))

pub places_in-longest-requires : goal.places_in-longest-requires
places_in-longest-requires c = let a = c.args in body-known (move_bodied (version_number a.from) a.bytes.now c.in_ok-head.head (rw c.number.ensures at c.in_ok-head.ensures))

pub moved-requires : goal.moved-requires
moved-requires c = let a = c.args in move_asked (version_number a.from) a.bytes.now c.in_ok-head.head (rw c.number.ensures at c.in_ok-head.ensures) c.places_in-longest.ensures
