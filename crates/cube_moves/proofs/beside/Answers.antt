use Rattle.std.proofs.Common.{◌≡◌, sym, ◌∙◌, subst, ℕ}
use Rattle.bits.specs.Bit.{bit}
use Rattle.cube_math.specs.Choose.{cleared}
use Rattle.cube_math.specs.Loops.{take-start}
use Rattle.cube_rows.specs.Grid.{target}
use Rattle.cube_moves.specs.Cut.{take_step, beside_some, beside_is}
use Rattle.cube_moves.proofs.beside.Goals as goal

pub loop-j-init : goal.loop-j-init
loop-j-init c = rw c.into_iter-j-iterator.ensures.into_iter_gives (record { sub = λ j o. o; taking = take-start _ _ _ _ })

pub target-requires : goal.target-requires
target-requires c = (c.requires.0.wide, c.requires.0.room _ (c.loop-j.invariant.sub _ c.in-Some.ensures.steps.0.set))

pub loop-j-preserved : goal.loop-j-preserved
loop-j-preserved c =
    let loop = c.loop-j in
    let turn = c.in-Some.ensures.steps in
    let o = turn.0.set in
    record {
      sub = λ i p. loop.invariant.sub i (cleared loop.j-iterator.0 _ o i (subst (λ (y : ℕ). bit i y ≡ 1) turn.1 p)).0;
      taking = take_step _ _ _ _ _ _ _ _ _ _ loop.invariant.taking o c.target.ensures c.mark-taken.ensures turn.1;
    }

pub lowest-requires : goal.lowest-requires
lowest-requires c =
    λ e. beside_some _ _ _ _ (target c.args.w c.args.grid.now) _ _ c.loop-j.invariant.taking c.in-None.ensures.steps c.requires.1 (sym c.less.ensures ∙ e)

pub returns : goal.returns
returns c = beside_is _ _ _ _ _ _ _ _ _ c.loop-j.invariant.taking c.in-None.ensures.steps c.less.ensures c.lowest.ensures
