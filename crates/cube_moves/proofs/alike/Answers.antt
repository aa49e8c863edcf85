use Rattle.std.proofs.Common.{sym, ap, ◌∙◌, ℕ, bit_xor, bit_and}
use Rattle.cube_moves.specs.Cut.{pick-start, pick-step, pick_all}
use Rattle.cube_moves.proofs.alike.Goals as goal

pub loop-j-init : goal.loop-j-init
loop-j-init c = rw c.into_iter-j-iterator.ensures.into_iter_gives (pick-start _ _ _)

pub target-requires : goal.target-requires
target-requires c = (c.requires.wide, c.requires.room _ (c.loop-j.invariant.part _ c.in-Some.ensures.steps.0.set))

pub loop-j-preserved : goal.loop-j-preserved
loop-j-preserved c =
    let a = c.args in
    let turn = c.in-Some.ensures.steps in
    let same = ap (λ (t : ℕ). bit_and (bit_xor t a.f) a.mask) c.target.ensures in
    pick-step _ _ _ _ _ _ _ c.loop-j.invariant turn.0.set (λ z. sym same ∙ z) (λ z e. z (same ∙ e)) c.keep-r.ensures turn.1

pub returns : goal.returns
returns c = pick_all _ _ _ c.loop-j.invariant c.in-None.ensures.steps
