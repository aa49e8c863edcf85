-- `planner::lay` meets its contract: each kind's planner is asked what it asks, and keeps the promise over every kind. Assumes nothing.
use Rattle.std.proofs.Common.{arith}
use Rattle.planner.specs.Laying.{lay_known, cube-few, cube_sought, cube-laid, two-few, two-asked, two-laid, none_left}
use Rattle.planner.proofs.lay.Goals as goal

pub overflow_cast-mesh : goal.overflow_cast-mesh
overflow_cast-mesh c =
    let a = c.args in
    omega (arith, cube-few a.mesh.kind a.mesh.size a.source a.targets.now a.places.now a.counts.now c.requires (omega arith))

pub fan_through-requires : goal.fan_through-requires
fan_through-requires c =
    let a = c.args in
    cube_sought a.mesh.kind a.mesh.size a.source a.targets.now a.places.now a.counts.now c.requires (omega arith)

pub returns-then-mesh-eq-CUBE : goal.returns-then-mesh-eq-CUBE
returns-then-mesh-eq-CUBE c =
    let a = c.args in
    cube-laid a.mesh.kind a.mesh.size a.source a.targets.now a.places.now a.counts.now c.requires c.if-mesh-eq-CUBE.true
    c.fan_through.ensures c.fan_through.auto.places c.fan_through.auto.counts

pub places_in-w-requires : goal.places_in-w-requires
places_in-w-requires c =
    let a = c.args in
    lay_known a.mesh.kind a.mesh.size a.source a.targets.now a.places.now a.counts.now c.requires

pub overflow_cast-mesh-then-mesh-eq-TWO : goal.overflow_cast-mesh-then-mesh-eq-TWO
overflow_cast-mesh-then-mesh-eq-TWO c =
    let a = c.args in
    omega (arith, two-few a.mesh.kind a.mesh.size a.source a.targets.now a.places.now a.counts.now c.requires (omega arith) c.if-mesh-eq-TWO.true)

pub lay-requires : goal.lay-requires
lay-requires c =
    let a = c.args in
    two-asked a.mesh.kind a.mesh.size a.source a.targets.now a.places.now a.counts.now c.requires (omega arith) c.if-mesh-eq-TWO.true
    c.places_in-w.ensures

pub returns-then-mesh-eq-TWO : goal.returns-then-mesh-eq-TWO
returns-then-mesh-eq-TWO c =
    let a = c.args in
    two-laid a.mesh.kind a.mesh.size a.source a.targets.now a.places.now a.counts.now c.requires (omega arith) c.if-mesh-eq-TWO.true
    c.lay.ensures c.lay.auto.places c.lay.auto.counts

pub returns-else-mesh-eq-TWO : goal.returns-else-mesh-eq-TWO
returns-else-mesh-eq-TWO c =
    let a = c.args in
    none_left a.mesh.kind a.mesh.size a.source a.targets.now a.places.now a.counts.now c.requires (omega arith) c.if-mesh-eq-TWO.false
