use Rattle.std.proofs.Common.{ℕ, refl, subst}
use Rattle.two_choose.specs.Masks.{fewer}
use Rattle.two_choose.specs.Choice.{Gating, gating_none, gating_more, gating_done}
use Rattle.two_choose.proofs.gates_of.Goals as goal

pub loop-todo-init : goal.loop-todo-init
loop-todo-init c = gating_none c.requires refl

pub loop-todo-smaller : goal.loop-todo-smaller
loop-todo-smaller c = fewer _ _ _ c.lowest-j.ensures.set c.flip-todo.ensures

pub loop-todo-preserved : goal.loop-todo-preserved
loop-todo-preserved c = gating_more c.requires _ _ _ _ c.loop-todo.invariant c.lowest-j.ensures.set c.gate_for.ensures c.power.ensures c.flip-todo.ensures

pub returns-clause-gates : goal.returns-clause-gates
returns-clause-gates c =
    let a = c.args in
    gating_done c.requires (subst (λ (y : ℕ). Gating a.home.order a.home.block a.targets.now.count a.targets.now.blocks a.targets.now.slots a.gated c.loop-todo.done.slots c.loop-todo.done.gated y) c.loop-todo-test.false c.loop-todo.invariant)
