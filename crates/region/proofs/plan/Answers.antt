-- `region::plan` meets its contract: 10, or what the bytes give. Assumes nothing.
use Rattle.region.specs.Planning.{unreadable}
use Rattle.region.proofs.plan.Goals as goal

pub returns-then-targets-ne0 : goal.returns-then-targets-ne0
returns-then-targets-ne0 c = let a = c.args in unreadable a.mesh.kind a.mesh.size a.source a.targets.now a.out.now c.if-targets-ne0.true c.code.ensures
