use Rattle.std.proofs.Common.{ℕ, sym, ap, ◌∙◌, [], ◌∷◌, arith}
use Rattle.cube_math.specs.Single.{rank}
use Rattle.cube_rows.specs.Grid.{hops, only_none, only_more}
use Rattle.cube_moves.specs.Lone.{ends-at, inside_goal, ends_some, ends-room, ends-less, ends_more, ends-way}
use Rattle.cube_moves.proofs.single.Goals as goal

pub target-d-requires : goal.target-d-requires
target-d-requires c = (omega (arith, c.requires.small), c.requires.row)

pub open_door-i-requires : goal.open_door-i-requires
open_door-i-requires c = c.requires.room

pub flip-goal-requires : goal.flip-goal-requires
flip-goal-requires c = c.open_door-i.ensures.small

pub end-here-requires : goal.end-here-requires
end-here-requires c =
    (c.open_door-i.ensures.small, omega (arith, c.requires.small, c.requires.room), c.requires.row, c.requires.new ∙ ap (λ (y : ℕ). y ∷ []) (sym c.target-d.ensures))

pub loop-here-init : goal.loop-here-init
loop-here-init c =
    record {
      only = only_none _ _ _;
      ends = c.end-here.ensures.ends _ (inside_goal _ _ _ _ _ _ _ c.open_door-i.ensures c.flip-goal.ensures c.target-d.ensures c.requires.inside);
    }

pub lowest-requires : goal.lowest-requires
lowest-requires c = ends_some _ _ _ _ _ _ c.loop-here.invariant.ends c.loop-here-test.true

pub flip-here-requires : goal.flip-here-requires
flip-here-requires c = c.lowest.ensures.within

pub push-requires : goal.push-requires
push-requires c =
    let inv = c.loop-here.invariant in (
      omega (arith, c.requires.row, inv.only.long, c.end-here.ensures.only.long),
      ends-room _ _ _ _ _ _ inv.ends c.loop-here-test.true _ c.lowest.ensures _
          (inside_goal _ _ _ _ _ _ _ c.open_door-i.ensures c.flip-goal.ensures c.target-d.ensures c.requires.inside) c.requires.small,
    )

pub loop-here-smaller : goal.loop-here-smaller
loop-here-smaller c =
    omega (arith, ends-less _ _ _ _ _ _ c.loop-here.invariant.ends c.loop-here-test.true _ c.lowest.ensures, ap (rank c.flip-goal.result) c.flip-here.ensures)

pub loop-here-preserved : goal.loop-here-preserved
loop-here-preserved c =
    let loop = c.loop-here in
    let a = c.args in
    record {
      only = only_more loop.invariant.only c.push.ensures.only;
      ends = ends-at (sym c.flip-here.ensures) (ends_more _ _ _ _ _ _ loop.invariant.ends c.loop-here-test.true _ c.lowest.ensures _
          (c.push.ensures.is ∙ ap (λ (y : ℕ). y ∷ hops a.w loop.grid a.j) c.flip-here.ensures));
    }

pub returns : goal.returns
returns c =
    let inv = c.loop-here.invariant in
    record {
      only = only_more c.end-here.ensures.only inv.only;
      way = ends-way _ _ _ _ _ _ _ _ _ c.target-d.ensures c.flip-goal.ensures inv.ends c.loop-here-test.false c.open_door-i.ensures c.requires.other c.requires.inside;
    }
