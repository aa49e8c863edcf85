-- `two_rows::plan_rows` meets its contract. Assumes nothing.
use Rattle.two_rows.specs.Rows.{asked, gives}
use Rattle.two_rows.proofs.plan_rows.Goals as goal

pub plan-requires : goal.plan-requires
plan-requires c = asked c.requires c.start_rows.ensures

pub returns : goal.returns
returns c = gives c.requires c.start_rows.ensures c.plan.ensures
