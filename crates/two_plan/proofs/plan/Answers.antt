-- `two_plan::plan` meets its contract: what is refused, or what `lay` draws. Assumes nothing.
use Rattle.std.proofs.Common.{refl, arith}
use Rattle.std.proofs.lemmas.Result.{err_from_is_err_and}
use Rattle.two_plan.specs.Steps.{order_in, plan_refused, plan_short, asked, plan_laid}
use Rattle.two_plan.proofs.plan.Goals as goal

pub returns-in_err-request : goal.returns-in_err-request
returns-in_err-request c =
    let p = err_from_is_err_and c.from_residual.result c.from_residual.ensures.1 in
    rw (p.1, p.2) (plan_refused _ _ _ _ c.request.ensures _ _ c.in_err-request.was)

pub returns-then-short : goal.returns-then-short
returns-then-short c = plan_short _ _ _ _ c.request.ensures _ _ c.in_ok-request.was c.short.ensures c.if-short.true

pub overflow_cast-order : goal.overflow_cast-order
overflow_cast-order c = omega (arith, (order_in _ _ c.args.targets.now _ c.request.ensures c.in_ok-request.was).1)

pub lay-requires : goal.lay-requires
lay-requires c = asked _ _ _ _ c.request.ensures _ _ c.in_ok-request.was c.short.ensures c.if-short.false _ _ refl c.places_in.ensures

pub returns : goal.returns
returns c = plan_laid _ _ _ _ c.request.ensures _ _ c.in_ok-request.was c.short.ensures c.if-short.false _ refl c.lay.ensures c.lay.auto.places c.lay.auto.counts
