-- `reply::request` meets its contract: the planner is lent room for every fan, so what it tells is what stands against the request. Assumes nothing.
use Rattle.std.proofs.Common.{refl}
use Rattle.reply.specs.Laws.{refusal-said, plan_refused, plan_known, plan_written}
use Rattle.reply.proofs.request.Goals as goal

pub places_in-w-requires : goal.places_in-w-requires
places_in-w-requires c = plan_known _ _ _ _ _ _ refl refl c.plan.ensures c.in-Ok.is

pub returns-in-Err : goal.returns-in-Err
returns-in-Err c =
    plan_refused _ _ _ _ _ _ refl refl c.plan.ensures c.in-Err.is (refusal-said c.in-Err.why c.args.out.now c.requires c.write_refusal.ensures.told c.write_refusal.ensures.left)

pub returns-in-Ok : goal.returns-in-Ok
returns-in-Ok c =
    plan_written _ _ _ _ _ _ refl refl c.plan.ensures c.in-Ok.is c.args.out.now c.requires c.places_in-w.ensures c.write_fan.ensures.told c.write_fan.ensures.left
