-- `cube_moves::parting` meets its contract. Assumes nothing.
use Rattle.std.proofs.Common.{◌≡◌, sym, ap, ◌∙◌, subst, ℕ, arith}
use lib.Count.{ones}
use Rattle.bits.specs.Bit.{bit}
use Rattle.bits.specs.Laws.{ones-zero}
use Rattle.cube_math.specs.Choose.{cleared}
use Rattle.cube_rows.specs.Grid.{target}
use Rattle.cube_moves.specs.Cut.{more_left, two_apart, parting_is}
use Rattle.cube_moves.proofs.parting.Goals as goal

pub lowest-x-requires : goal.lowest-x-requires
lowest-x-requires c = λ e. omega (arith, ap ones e, ones-zero, c.requires.1)

pub lowest-y-requires : goal.lowest-y-requires
lowest-y-requires c = λ e. more_left _ _ c.requires.1 c.lowest-x.ensures.set (sym c.flip-rest.ensures ∙ e)

pub target-t-requires : goal.target-t-requires
target-t-requires c = (c.requires.0.wide, c.requires.0.room _ c.lowest-x.ensures.set)

pub target-requires : goal.target-requires
target-requires c =
    let on = subst (λ (y : ℕ). bit c.lowest-y.result y ≡ 1) c.flip-rest.ensures c.lowest-y.ensures.set in
    (c.requires.0.wide, c.requires.0.room _ (cleared c.args.m _ c.lowest-x.ensures.set _ on).0)

pub lowest-requires : goal.lowest-requires
lowest-requires c =
    two_apart _ (target c.args.w c.args.grid.now) _ _ _ _ _ c.flip-rest.ensures c.lowest-x.ensures.set c.lowest-y.ensures.set
    c.target-t.ensures c.target.ensures c.requires.2

pub returns : goal.returns
returns c =
    parting_is _ _ _ _ _ _ _ _ c.flip-rest.ensures c.lowest-x.ensures.set c.lowest-y.ensures.set
    c.target-t.ensures c.target.ensures c.lowest.ensures
