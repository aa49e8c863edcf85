use Rattle.std.proofs.Common.{subst, ℕ, eqb-true}
use borrow.Author.Tests.{eqb-false}
use Rattle.cube_math.specs.Masks.{at}
use Rattle.two_math.specs.Loops.{Classing, classing_none, classing_done}
use Rattle.two_choose.specs.Masks.{class_new, class_old, classing_next, fewer}
use Rattle.two_choose.proofs.firsts.Goals as goal

pub loop-todo-init : goal.loop-todo-init
loop-todo-init c = classing_none _ _

pub loop-todo-smaller : goal.loop-todo-smaller
loop-todo-smaller c = fewer _ _ _ c.lowest-j.ensures.set c.flip-todo.ensures

pub loop-todo-preserved : goal.loop-todo-preserved
loop-todo-preserved c =
    classing_next _ _ _ c.loop-todo.invariant c.lowest-j.ensures.set c.add_if-r.ensures c.flip-todo.ensures
    (λ t. class_new c.args.blocks.now c.lowest-j.result _ _ (λ j o. c.requires j (c.loop-todo.invariant.sub j o)) c.equals-same.ensures (eqb-true _ 0 t))
    (λ f. class_old c.args.blocks.now c.lowest-j.result _ _ (λ j o. c.requires j (c.loop-todo.invariant.sub j o)) c.equals-same.ensures (λ z. eqb-false _ 0 f z))

pub returns : goal.returns
returns c = classing_done (subst (λ (y : ℕ). Classing (at c.args.blocks.now) c.args.set y c.loop-todo.r) c.loop-todo-test.false c.loop-todo.invariant)
