-- `sheet_read::body` meets its contract: room, then the paths checked, and then they are taken. Assumes nothing.
use Rattle.std.proofs.lemmas.Result.{err_from_is_err_and}
use Rattle.sheet_check.specs.Bodied.{longest_is}
use Rattle.sheet_read.specs.Filling.{body-flawed, body_taken, body-fan}
use Rattle.sheet_read.proofs.body.Goals as goal

pub returns-in_err-check_paths : goal.returns-in_err-check_paths
returns-in_err-check_paths c =
    let a = c.args in
    let p = err_from_is_err_and c.from_residual.result c.from_residual.ensures.1 in
    rw (p.1, p.2) (body-flawed c.requires a.places.now a.counts.now a.targets.now c.lacking.ensures c.if-lacking.false _ (rw c.number.ensures at c.in_err-check_paths.ensures))

pub take_paths-requires : goal.take_paths-requires
take_paths-requires c =
    let a = c.args in
    rw c.number-2.ensures
    (body_taken c.requires a.places.now a.counts.now a.targets.now c.lacking.ensures c.if-lacking.false (rw c.number.ensures at c.in_ok-check_paths.ensures) (longest_is c.requires c.places_in.ensures))

pub returns : goal.returns
returns c =
    let a = c.args in
    body-fan c.requires a.places.now a.counts.now a.targets.now c.lacking.ensures c.if-lacking.false (rw c.number.ensures at c.in_ok-check_paths.ensures) (longest_is c.requires c.places_in.ensures)
    (rw c.number-2.ensures at c.take_paths.ensures)
