-- `survivors::zones::bundle_survivors` meets its contract: the three columns, and then the fourth. Assumes nothing.
use Rattle.std.proofs.Common.{sym, ◌∙◌}
use lib.ListN.{length-replicate}
use Rattle.paths.specs.Whole.{failed}
use Rattle.mesh.specs.Kinds.{kind_of, mesh_of}
use Rattle.judge.specs.Says.{bundle_asked}
use Rattle.survivors.specs.Zones.{zoned_carried, zoned_survived}
use Rattle.survivors.specs.Laws.{bundle_many}
use Rattle.survivors.proofs.zones.bundle_survivors.Goals as goal

pub carry-requires : goal.carry-requires
carry-requires c = let a = c.args in zoned_carried (bundle_asked (kind_of a.mesh.kind) a.mesh.size a.source a.target) a.places.now a.counts.now a.zones.now (failed a.stopped.now a.cuts.now) a.ends.now a.hops.now a.wholes.now a.sites.now (λ e. bundle_many (kind_of a.mesh.kind) a.mesh.size a.source a.target c.bundle_paths-k.ensures e ∙ sym (length-replicate (mesh_of a.mesh.kind a.mesh.size).links a.target)) c.scarce-lacking.ensures c.bundle_three-bundle.ensures

pub returns : goal.returns
returns c = let a = c.args in rw c.carry.ensures.told (zoned_survived (bundle_asked (kind_of a.mesh.kind) a.mesh.size a.source a.target) a.places.now a.counts.now a.zones.now (failed a.stopped.now a.cuts.now) a.ends.now a.hops.now a.wholes.now a.sites.now (λ e. bundle_many (kind_of a.mesh.kind) a.mesh.size a.source a.target c.bundle_paths-k.ensures e ∙ sym (length-replicate (mesh_of a.mesh.kind a.mesh.size).links a.target)) c.scarce-lacking.ensures c.bundle_three-bundle.ensures c.carry.ensures.column)
