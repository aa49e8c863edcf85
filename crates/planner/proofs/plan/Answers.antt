-- What is refused, or the fan that `lay` gives. Assumes nothing.
use Rattle.std.proofs.Common.{refl}
use Rattle.std.proofs.lemmas.Result.{err_from_is_err_and}
use Rattle.planner.specs.Steps.{plan_refused, short_ask, plan_short, layable, plan_laid}
use Rattle.planner.proofs.plan.Goals as goal

pub returns-in_err-plan_request : goal.returns-in_err-plan_request
returns-in_err-plan_request c =
    let a = c.args in
    let p = err_from_is_err_and c.from_residual.result c.from_residual.ensures.1 in
    rw (p.1, p.2) (plan_refused a.mesh.kind a.mesh.size a.source a.targets.now a.places.now a.counts.now c.in_err-plan_request.ensures refl)

pub short-requires : goal.short-requires
short-requires c =
    let a = c.args in
    short_ask a.mesh.kind a.mesh.size a.source a.targets.now a.places.now a.counts.now c.in_ok-plan_request.ensures refl

pub returns-then-short : goal.returns-then-short
returns-then-short c =
    let a = c.args in
    plan_short a.mesh.kind a.mesh.size a.source a.targets.now a.places.now a.counts.now c.in_ok-plan_request.ensures refl c.short.ensures c.if-short.true

pub lay-requires : goal.lay-requires
lay-requires c =
    let a = c.args in
    layable a.mesh.kind a.mesh.size a.source a.targets.now a.places.now a.counts.now c.in_ok-plan_request.ensures refl c.short.ensures c.if-short.false

pub returns : goal.returns
returns c =
    let a = c.args in
    plan_laid a.mesh.kind a.mesh.size a.source a.targets.now a.places.now a.counts.now c.in_ok-plan_request.ensures refl c.short.ensures c.if-short.false
    c.lay.ensures
