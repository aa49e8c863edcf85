-- `sheet_check::check_in` meets its contract: what is wrong with the head, else with the paths. Assumes nothing.
use Rattle.std.proofs.lemmas.Result.{err_from_is_err_and}
use Rattle.sheet_check.specs.Bodied.{head-flawed}
use Rattle.sheet_check.proofs.check_in.Goals as goal

pub returns-in_err-told : goal.returns-in_err-told
returns-in_err-told c =
    let p = err_from_is_err_and c.from_residual.result c.from_residual.ensures.1 in
    rw (p.1, p.2) (head-flawed c.args.version c.args.bytes.now _ c.in_err-told.ensures)
