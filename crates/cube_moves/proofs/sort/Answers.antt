use Rattle.std.proofs.Common.{sym}
use Rattle.cube_math.specs.Loops.{sort_start}
use Rattle.cube_moves.specs.Sort.{sorting_at}
use Rattle.cube_moves.proofs.sort.Goals as goal

pub loop-j-init : goal.loop-j-init
loop-j-init c = rw c.into_iter-j-iterator.ensures.into_iter_gives (sort_start _ _ _ _ _ _ c.requires.2)

pub target-t-requires : goal.target-t-requires
target-t-requires c =
    let a = c.loop-j.invariant in
    (c.requires.0.wide, c.requires.0.room _ (a.sub _ (a.ahead _ c.in-Some.ensures.steps.0.set)))

pub loop-j-preserved : goal.loop-j-preserved
loop-j-preserved c =
    let a = c.loop-j.invariant in
    let turn = c.in-Some.ensures.steps in
    let o = turn.0.set in
    sorting_at (sym turn.1) (c.sort_one-r.ensures.step _ _ _ _ _ (sym c.target-t.ensures) (c.requires.1.is _ (a.sub _ (a.ahead _ o))) a o)

pub returns : goal.returns
returns c = sorting_at c.in-None.ensures.steps c.loop-j.invariant
