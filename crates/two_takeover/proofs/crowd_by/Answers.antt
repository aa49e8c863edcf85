use Rattle.std.proofs.Common.{subst, ap, ℕ, List, get_or}
use Rattle.two_takeover.specs.Over.{Crowding, crowding_none, crowding_more, crowd_read, crowd_found, crowd_none, fewer}
use Rattle.two_takeover.proofs.crowd_by.Goals as goal

pub loop-todo-init : goal.loop-todo-init
loop-todo-init c = crowding_none _ _ _

pub row-requires : goal.row-requires
row-requires c = let q = crowd_read _ c.requires (c.loop-todo.invariant.ahead _ c.lowest-r.ensures.set) in (q.0, q.1)

pub returns-then-row-front : goal.returns-then-row-front
returns-then-row-front c =
    let o = c.loop-todo.invariant.ahead _ c.lowest-r.ensures.set in
    crowd_found _ _ c.requires o (ap (λ (l : List ℕ). get_or l 0 0) c.row.ensures) c.if-row-front.true

pub loop-todo-smaller : goal.loop-todo-smaller
loop-todo-smaller c = fewer _ _ _ c.lowest-r.ensures.set c.flip-todo.ensures

pub loop-todo-preserved : goal.loop-todo-preserved
loop-todo-preserved c = crowding_more _ _ _ c.loop-todo.invariant c.lowest-r.ensures.set (ap (λ (l : List ℕ). get_or l 0 0) c.row.ensures) c.if-row-front.false c.flip-todo.ensures

pub returns : goal.returns
returns c =
    let a = c.args in
    crowd_none (subst (λ (y : ℕ). Crowding a.reps a.front a.grid.now y) c.loop-todo-test.false c.loop-todo.invariant)
