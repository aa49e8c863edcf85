-- `cube_plan::plan_through` meets its contract: what `request` refuses, 11, or what `lay` gives with the other doors shut. Assumes nothing.
use Rattle.std.proofs.Common.{sym, ◌∙◌}
use Rattle.std.proofs.lemmas.Result.{err_from_is_err_and}
use Rattle.cube_plan.specs.Order.{asked, asked_through, through_refused, through_bad, through_laid}
use Rattle.cube_plan.proofs.plan_through.Goals as goal

pub returns-in_err-request : goal.returns-in_err-request
returns-in_err-request c =
    let p = err_from_is_err_and c.from_residual.result c.from_residual.ensures.1 in
    rw (p.1, p.2) (through_refused _ _ _ _ _ _ (sym c.in_err-request.ensures))

pub bad_doors-requires : goal.bad_doors-requires
bad_doors-requires c =
    let a = c.args in
    (asked a.size.0 a.source a.targets.now (sym c.in_ok-request.ensures)).size

pub returns-then-bad_doors : goal.returns-then-bad_doors
returns-then-bad_doors c =
    through_bad _ _ _ _ _ _ (sym c.in_ok-request.ensures) (sym c.bad_doors.ensures ∙ c.if-bad_doors.true)

pub others-shut-requires : goal.others-shut-requires
others-shut-requires c =
    let a = c.args in
    (asked a.size.0 a.source a.targets.now (sym c.in_ok-request.ensures)).size

pub lay-requires : goal.lay-requires
lay-requires c =
    asked_through _ _ _ _ (sym c.in_ok-request.ensures)
    (sym c.bad_doors.ensures ∙ c.if-bad_doors.false) c.others-shut.ensures

pub returns : goal.returns
returns c =
    through_laid _ _ _ _ _ _ (sym c.in_ok-request.ensures)
    (sym c.bad_doors.ensures ∙ c.if-bad_doors.false) c.others-shut.ensures c.lay.ensures
