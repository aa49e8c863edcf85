-- `region::sheets::lay_alone` meets its contract: each room is large enough where it is chosen. Assumes nothing.
use Rattle.std.proofs.Common.{ℕ, List, ◌*◌, ◌≤◌, ◌≡◌, sym, subst, arith, length}
use Rattle.paths.specs.Mesh.{width}
use Rattle.mesh.specs.Kinds.{mesh_of}
use Rattle.region.specs.Planning.{sound_known, sound_placed, alone}
use Rattle.region.specs.Needs.{Sound}
use Rattle.region.proofs.sheets.lay_alone.Goals as goal

-- what code has of the places of a path: the paths take no more places than any fan
fits : (kind size source : ℕ) (targets : List ℕ) {room w : ℕ} → Sound kind size source targets room → w ≡ width (mesh_of kind size) → length targets * w ≤ 1242
fits kind size source targets f e = subst (λ (w : ℕ). length targets * w ≤ 1242) (sym e) (sound_placed kind size source targets f)

pub places_in-requires : goal.places_in-requires
places_in-requires c = let a = c.args in sound_known a.mesh.kind a.mesh.size a.source a.targets.now c.requires

pub overflow_mul-taken : goal.overflow_mul-taken
overflow_mul-taken c = omega (arith, fits c.args.mesh.kind c.args.mesh.size c.args.source c.args.targets.now c.requires c.places_in.ensures)

pub lay-requires : goal.lay-requires
lay-requires c =
    let a = c.args in
    alone a.mesh.kind a.mesh.size a.source a.targets.now c.requires c.places_in.ensures c.if-taken-le172.true (omega arith)

pub returns-then-taken-le172 : goal.returns-then-taken-le172
returns-then-taken-le172 c = c.lay.ensures

pub lay-requires-then-taken-le465 : goal.lay-requires-then-taken-le465
lay-requires-then-taken-le465 c =
    let a = c.args in
    alone a.mesh.kind a.mesh.size a.source a.targets.now c.requires c.places_in.ensures c.if-taken-le465.true (omega arith)

pub returns-then-taken-le465 : goal.returns-then-taken-le465
returns-then-taken-le465 c = c.lay-then-taken-le465.ensures

pub lay-requires-2 : goal.lay-requires-2
lay-requires-2 c =
    let a = c.args in
    alone a.mesh.kind a.mesh.size a.source a.targets.now c.requires c.places_in.ensures (fits c.args.mesh.kind c.args.mesh.size c.args.source c.args.targets.now c.requires c.places_in.ensures) (omega arith)

pub returns : goal.returns
returns c = c.lay-2.ensures
