-- What the planner tells and leaves.
use Rattle.host.specs.Laws.{fan_in}
use Rattle.host.proofs.routines.gust_fan.Goals as goal

pub returns : goal.returns
returns c = fan_in c.plan-planned.ensures c.of_checked.ensures
