-- `around::checked` meets its contract: what a distance refuses, then 43, 44. Assumes nothing.
use Rattle.around.specs.Held.{has-is}
use Rattle.around.specs.Needs.{source-stopped, target-stopped, none-stopped}
use Rattle.around.proofs.checked.Goals as goal

pub returns-then-contains : goal.returns-then-contains
returns-then-contains c =
    let a = c.args in
    source-stopped a.mesh.kind a.mesh.size a.source a.target a.stopped.now c.in_ok-far.ensures (has-is a.stopped.now a.source c.contains.ensures.value c.if-contains.true)

pub returns-then-contains-2 : goal.returns-then-contains-2
returns-then-contains-2 c =
    let a = c.args in
    target-stopped a.mesh.kind a.mesh.size a.source a.target a.stopped.now c.in_ok-far.ensures (has-is a.stopped.now a.source c.contains.ensures.value c.if-contains.false)
    (has-is a.stopped.now a.target c.contains-2.ensures.value c.if-contains-2.true)

pub returns : goal.returns
returns c =
    let a = c.args in
    none-stopped a.mesh.kind a.mesh.size a.source a.target a.stopped.now c.in_ok-far.ensures (has-is a.stopped.now a.source c.contains.ensures.value c.if-contains.false)
    (has-is a.stopped.now a.target c.contains-2.ensures.value c.if-contains-2.false)
