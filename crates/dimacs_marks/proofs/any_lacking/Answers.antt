use Rattle.std.proofs.Common.{arith, sym, ◌∙◌}
use Rattle.scan.specs.Laws.{true-any, false-any}
use Rattle.dimacs_marks.specs.Marks.{lacks_any, as_any}
use Rattle.dimacs_marks.proofs.any_lacking.Goals as goal

pub returns-then-any_link : goal.returns-then-any_link
returns-then-any_link c =
    let a = c.args in
    sym (true-any (lacks_any a.mesh.kind a.mesh.size a.links a.seen.now) 0 _ c.loop-u.u (omega arith) (omega arith) (sym (as_any _ _ _ a.seen.now _ c.from.ensures c.any_link.ensures) ∙ c.if-any_link.true))

pub returns : goal.returns
returns c = let a = c.args in sym (false-any (lacks_any a.mesh.kind a.mesh.size a.links a.seen.now) 0 _ (λ j x h. c.loop-u.invariant.fails j x (omega arith)))
