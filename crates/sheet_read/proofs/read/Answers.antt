-- `sheet_read::read` meets its contract: what is wrong with the head, else what the body gives. Assumes nothing.
use Rattle.std.proofs.lemmas.Result.{err_from_is_err_and}
use Rattle.sheet_read.specs.Filling.{head_refused}
use Rattle.sheet_read.proofs.read.Goals as goal

pub returns-in_err-head : goal.returns-in_err-head
returns-in_err-head c =
    let a = c.args in
    let p = err_from_is_err_and c.from_residual.result c.from_residual.ensures.1 in
    rw (p.1, p.2) (head_refused 1 a.bytes.now a.places.now a.counts.now a.targets.now _ c.in_err-head.ensures)
