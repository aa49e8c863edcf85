-- `cube_plan::plan` meets its contract: what `request` refuses, or what `lay` gives with no door shut. Assumes nothing.
use Rattle.std.proofs.Common.{sym}
use Rattle.std.proofs.lemmas.Result.{err_from_is_err_and}
use Rattle.cube_plan.specs.Order.{asked, plan_refused, plan_laid}
use Rattle.cube_plan.proofs.plan.Goals as goal

pub returns-in_err-request : goal.returns-in_err-request
returns-in_err-request c =
    let p = err_from_is_err_and c.from_residual.result c.from_residual.ensures.1 in
    rw (p.1, p.2) (plan_refused _ _ _ _ _ (sym c.in_err-request.ensures))

pub lay-requires : goal.lay-requires
lay-requires c =
    asked _ _ _ (sym c.in_ok-request.ensures)

pub returns : goal.returns
returns c =
    plan_laid _ _ _ _ _ (sym c.in_ok-request.ensures) c.lay.ensures
