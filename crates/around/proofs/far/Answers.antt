-- `around::far` meets its contract: 1 and 52, then 9, then the two ends. Assumes nothing.
use Rattle.std.proofs.Common.{◌∙◌, arith}
use Rattle.around.specs.Needs.{far-cube, far-large, far_ends}
use Rattle.around.proofs.far.Goals as goal
use Rattle.around.proofs.far.Goals.{then-mesh-eq-CUBE-via-then-mesh-eq-CUBE, then-mesh-eq-CUBE-via-else-mesh-eq-CUBE+then-mesh-gt3}

pub returns-then-mesh-eq-CUBE : goal.returns-then-mesh-eq-CUBE
returns-then-mesh-eq-CUBE c =
    let a = c.args in
    elim c.then-mesh-eq-CUBE.branch [
      | then-mesh-eq-CUBE-via-then-mesh-eq-CUBE w ↦ far-cube a.mesh.kind a.mesh.size a.source a.target c.planned.ensures c.if-not-planned.false w.if-mesh-eq-CUBE.true
      | then-mesh-eq-CUBE-via-else-mesh-eq-CUBE+then-mesh-gt3 w ↦
          far-large a.mesh.kind a.mesh.size a.source a.target c.planned.ensures c.if-not-planned.false w.if-mesh-eq-CUBE.false w.if-mesh-gt3.true
    ]

pub returns : goal.returns
returns c =
    let a = c.args in
    c.pair.ensures ∙ far_ends a.mesh.kind a.mesh.size a.source a.target c.planned.ensures c.if-not-planned.false c.if-mesh-eq-CUBE.false (omega arith) c.relays_in.ensures
