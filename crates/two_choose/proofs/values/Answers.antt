use Rattle.std.proofs.Common.{◌≡◌, refl, subst, ℕ}
use Rattle.cube_math.specs.Masks.{at}
use Rattle.two_math.specs.Loops.{Using, using_none, using_done}
use Rattle.two_choose.specs.Masks.{using_or, fewer}
use Rattle.two_choose.proofs.values.Goals as goal

pub loop-todo-init : goal.loop-todo-init
loop-todo-init c = using_none _ _

pub loop-todo-smaller : goal.loop-todo-smaller
loop-todo-smaller c = fewer _ _ _ c.lowest-j.ensures.set c.flip-todo.ensures

pub loop-todo-preserved : goal.loop-todo-preserved
loop-todo-preserved c = using_or _ _ _ _ c.loop-todo.invariant c.lowest-j.ensures.set refl c.power-r.ensures c.flip-todo.ensures

pub returns : goal.returns
returns c = using_done (subst (λ (y : ℕ). Using (λ j a. at c.args.vals.now j ≡ a) c.args.set y c.loop-todo.r) c.loop-todo-test.false c.loop-todo.invariant)
