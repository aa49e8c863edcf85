use Rattle.std.proofs.Common.{arith, sym, ◌∙◌}
use Rattle.scan.specs.Laws.{true-any, false-any}
use Rattle.dimacs_marks.specs.Marks.{lacks}
use Rattle.dimacs_marks.proofs.any_link.Goals as goal

pub returns-then-lacking : goal.returns-then-lacking
returns-then-lacking c = let a = c.args in sym (true-any (lacks a.mesh.kind a.mesh.size a.u a.mark) 0 _ c.loop-i.i (omega arith) (omega arith) (sym c.lacking.ensures ∙ c.if-lacking.true))

pub returns : goal.returns
returns c = let a = c.args in sym (false-any (lacks a.mesh.kind a.mesh.size a.u a.mark) 0 _ (λ j x h. c.loop-i.invariant.fails j x (omega arith)))
