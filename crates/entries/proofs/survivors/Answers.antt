-- `entries::survivors` meets its contract: what is gathered is stored. Assumes nothing.
use Rattle.paths.specs.Whole.{failed}
use Rattle.mesh.specs.Kinds.{kind_of}
use Rattle.judge.specs.Says.{fan_asked}
use Rattle.entries.specs.Laws.{listed}
use Rattle.entries.proofs.survivors.Goals as goal

pub store-requires : goal.store-requires
store-requires c = let g = c.gather-g.ensures in record { small = g.small; fits = g.fits }

pub returns : goal.returns
returns c =
    let a = c.args in
    listed (fan_asked (kind_of a.mesh.kind) a.mesh.size a.source a.targets.now) a.places.now a.counts.now a.zones.now (failed a.stopped.now a.cuts.now) a.out.now c.gather-g.ensures c.store.ensures.0 c.store.ensures.1
