use Rattle.paths.specs.Walked.{walk_starts, walk_goes_on}
use Rattle.requests.specs.Ways.{on_way}
use Rattle.requests.proofs.ways.Ways.walk.Goals as goal

pub loop-at-init : goal.loop-at-init
loop-at-init g c = let a = c.args in walk_starts (g.Self.Hops.next a.self) a.s a.t (g.Self.Hops.hops a.self a.s a.t) a.out.now c.requires.room

pub hop-at-requires : goal.hop-at-requires
hop-at-requires g c =
    let a = c.args in
    let v = c.loop-at.invariant in
    on_way c.requires.between c.requires.way v.bound v.here

pub loop-at-preserved : goal.loop-at-preserved
loop-at-preserved g c =
    let a = c.args in
    walk_goes_on (g.Self.Hops.next a.self) a.s a.t (g.Self.Hops.hops a.self a.s a.t) c.requires.way.arrives c.loop-at.invariant c.loop-at-test.true c.hop-at.ensures
