-- `bundle::plan` meets its contract: what was checked, room, then the bundle. Assumes nothing.
use Rattle.std.proofs.Common.{refl}
use Rattle.std.proofs.lemmas.Result.{err_from_is_err_and}
use Rattle.bundle.specs.Steps.{plan_refused, short_ask, plan_short, layable, plan_laid}
use Rattle.bundle.proofs.plan.Goals as goal

pub returns-in_err-ends : goal.returns-in_err-ends
returns-in_err-ends c =
    let a = c.args in
    let p = err_from_is_err_and c.from_residual.result c.from_residual.ensures.1 in
    rw (p.1, p.2) (plan_refused a.mesh.kind a.mesh.size a.source a.target a.places.now a.counts.now c.in_err-ends.ensures refl)

pub bundle_short-requires : goal.bundle_short-requires
bundle_short-requires c =
    let a = c.args in
    short_ask a.mesh.kind a.mesh.size a.source a.target a.places.now a.counts.now c.in_ok-ends.ensures refl

pub returns-then-bundle_short : goal.returns-then-bundle_short
returns-then-bundle_short c =
    let a = c.args in
    plan_short a.mesh.kind a.mesh.size a.source a.target a.places.now a.counts.now c.in_ok-ends.ensures refl c.bundle_short.ensures c.if-bundle_short.true

pub lay-requires : goal.lay-requires
lay-requires c =
    let a = c.args in
    layable a.mesh.kind a.mesh.size a.source a.target a.places.now a.counts.now c.in_ok-ends.ensures refl c.bundle_short.ensures c.if-bundle_short.false

pub returns : goal.returns
returns c =
    let a = c.args in
    plan_laid a.mesh.kind a.mesh.size a.source a.target a.places.now a.counts.now c.in_ok-ends.ensures refl c.bundle_short.ensures c.if-bundle_short.false
    c.lay.ensures
