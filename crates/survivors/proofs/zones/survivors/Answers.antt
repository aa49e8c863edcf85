-- `survivors::zones::survivors` meets its contract: the three columns, and then the fourth. Assumes nothing.
use Rattle.std.proofs.Common.{refl}
use Rattle.paths.specs.Whole.{failed}
use Rattle.mesh.specs.Kinds.{kind_of}
use Rattle.judge.specs.Says.{fan_asked}
use Rattle.survivors.specs.Zones.{zoned_carried, zoned_survived}
use Rattle.survivors.proofs.zones.survivors.Goals as goal

pub carry-requires : goal.carry-requires
carry-requires c = let a = c.args in zoned_carried (fan_asked (kind_of a.mesh.kind) a.mesh.size a.source a.targets.now) a.places.now a.counts.now a.zones.now (failed a.stopped.now a.cuts.now) a.ends.now a.hops.now a.wholes.now a.sites.now (λ e. refl) c.scarce-lacking.ensures c.three-fan.ensures

pub returns : goal.returns
returns c = let a = c.args in rw c.carry.ensures.told (zoned_survived (fan_asked (kind_of a.mesh.kind) a.mesh.size a.source a.targets.now) a.places.now a.counts.now a.zones.now (failed a.stopped.now a.cuts.now) a.ends.now a.hops.now a.wholes.now a.sites.now (λ e. refl) c.scarce-lacking.ensures c.three-fan.ensures c.carry.ensures.column)
