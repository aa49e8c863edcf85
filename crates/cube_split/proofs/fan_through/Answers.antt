-- `cube_split::fan_through` meets its contract: each row begins with its target, the recursion is asked for all of them, and they are laid out. Assumes nothing.
use Rattle.std.proofs.Common.{arith}
use Rattle.cube_split.specs.Fan.{fan-asked, fan-count, fan_given}
use Rattle.cube_split.proofs.fan_through.Goals as goal

pub begin-requires : goal.begin-requires
begin-requires c = (omega arith, c.requires.room)

pub full-requires-2 : goal.full-requires-2
full-requires-2 c = omega (arith, c.requires.few, c.requires.size)

pub plan-requires : goal.plan-requires
plan-requires c = fan-asked _ _ _ _ _ _ _ c.requires c.begin.ensures _ _ c.full.ensures c.full-2.ensures

pub spread-requires : goal.spread-requires
spread-requires c = (
  fan-count _ _ _ _ _ _ _ c.requires c.begin.ensures _ _ _ c.full.ensures c.full-2.ensures c.plan.ensures,
  omega (arith, c.requires.room, c.plan.ensures.keeps.long, c.begin.ensures.long),
  c.requires.counted,
)

pub returns : goal.returns
returns c =
    fan_given _ _ _ _ _ _ _ c.requires c.begin.ensures _ _ _ c.full.ensures c.full-2.ensures c.plan.ensures
    _ _ c.spread.ensures
