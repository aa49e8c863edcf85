-- `entries::gathered::gather` meets its contract: the plain function's columns, of as many places as there is room for. Assumes nothing.
use Rattle.std.proofs.Common.{sym, refl}
use Rattle.paths.specs.Whole.{failed}
use Rattle.mesh.specs.Kinds.{kind_of}
use Rattle.judge.specs.Says.{fan_asked}
use Rattle.entries.specs.Laws.{capped-is, capped-most, capped-length, fan-few, gathered}
use Rattle.entries.proofs.gathered.gather.Goals as goal

pub slice_bounds-ends-end : goal.slice_bounds-ends-end
slice_bounds-ends-end c = capped-most _ (capped-is _ c.min-n.ensures)

pub slice_bounds-survivors-end : goal.slice_bounds-survivors-end
slice_bounds-survivors-end c = sym (capped-length _ _ refl (capped-is _ c.min-n.ensures))

pub slice_bounds-hops-end : goal.slice_bounds-hops-end
slice_bounds-hops-end c = capped-most _ (capped-is _ c.min-n.ensures)

pub slice_bounds-survivors-end-2 : goal.slice_bounds-survivors-end-2
slice_bounds-survivors-end-2 c = sym (capped-length _ _ refl (capped-is _ c.min-n.ensures))

pub slice_bounds-wholes-end : goal.slice_bounds-wholes-end
slice_bounds-wholes-end c = capped-most _ (capped-is _ c.min-n.ensures)

pub slice_bounds-survivors-end-3 : goal.slice_bounds-survivors-end-3
slice_bounds-survivors-end-3 c = sym (capped-length _ _ refl (capped-is _ c.min-n.ensures))

pub slice_bounds-sites-end : goal.slice_bounds-sites-end
slice_bounds-sites-end c = capped-most _ (capped-is _ c.min-n.ensures)

pub slice_bounds-survivors-end-4 : goal.slice_bounds-survivors-end-4
slice_bounds-survivors-end-4 c = sym (capped-length _ _ refl (capped-is _ c.min-n.ensures))

pub returns : goal.returns
returns c =
    let a = c.args in
    gathered (fan_asked (kind_of a.mesh.kind) a.mesh.size a.source a.targets.now) (fan-few a.mesh.kind a.mesh.size a.source a.targets.now)
    a.places.now a.counts.now a.zones.now (failed a.stopped.now a.cuts.now) a.room _ _ _ _ _ _ _ refl (capped-is _ c.min-n.ensures) c.survivors-tally.ensures (λ e. refl) c.taken-k.ensures
