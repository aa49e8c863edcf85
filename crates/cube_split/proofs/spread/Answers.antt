use Rattle.std.proofs.Common.{refl, ◌*◌, ◌<◌, arith, rules}
use Rattle.cube_rows.specs.Grid.{row_room}
use Rattle.cube_split.specs.Fan.{spread_none, spread_more, spread_all}
use Rattle.cube_split.proofs.spread.Goals as goal

pub loop-j-init : goal.loop-j-init
loop-j-init c = spread_none _ _ _ _ _ refl

pub overflow_mul-j : goal.overflow_mul-j
overflow_mul-j c =
    let u = row_room c.loop-j.j c.args.k c.args.w c.loop-j-test.true in
    search rules

pub settle-requires : goal.settle-requires
settle-requires c =
    let loop = c.loop-j in
    let h : loop.j < c.args.k = c.loop-j-test.true in (
      omega (arith, c.requires.0 loop.j h, loop.invariant.ahead (loop.j * c.args.w) (omega arith)),
      omega (arith, row_room loop.j c.args.k c.args.w h),
    )

pub loop-j-preserved : goal.loop-j-preserved
loop-j-preserved c =
    let loop = c.loop-j in
    let h : loop.j < c.args.k = c.loop-j-test.true in
    spread_more _ _ _ _ _ _ _ _ _ loop.invariant (c.requires.0 loop.j h) (omega arith) c.settle.ensures

pub returns : goal.returns
returns c = spread_all (omega arith) c.loop-j.invariant
