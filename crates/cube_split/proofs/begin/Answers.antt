use Rattle.std.proofs.Common.{refl, arith, length}
use Rattle.cube_rows.specs.Grid.{row_room}
use Rattle.cube_split.specs.Fan.{begun-none, begun_more, begun_all}
use Rattle.cube_split.proofs.begin.Goals as goal

pub loop-j-init : goal.loop-j-init
loop-j-init c = begun-none _ _ _ _ refl

pub start-requires : goal.start-requires
start-requires c =
    let j = c.loop-j.j in
    (c.requires.0, omega (arith, row_room j (length c.args.targets.now) c.args.w c.loop-j-test.true, c.loop-j.invariant.long))

pub loop-j-preserved : goal.loop-j-preserved
loop-j-preserved c = begun_more _ _ _ _ _ _ c.loop-j.invariant c.loop-j-test.true c.start.ensures

pub returns : goal.returns
returns c = begun_all (omega arith) c.loop-j.invariant
