-- `two_ring::plan` meets its contract. Assumes nothing.
use Rattle.std.proofs.Common.{ap₂, ltb}
use Rattle.two_ring.specs.Sides.{one-drawn, two-drawn}
use Rattle.two_ring.proofs.plan.Goals as goal

pub returns-then-targets-eq1 : goal.returns-then-targets-eq1
returns-then-targets-eq1 c =
    one-drawn c.requires c.if-targets-eq1.true c.lay.ensures

pub returns : goal.returns
returns c =
    two-drawn c.requires _ (ap₂ ltb c.far.ensures c.far-2.ensures) c.if-targets-eq1.false c.lay-2.ensures c.lay-3.ensures
