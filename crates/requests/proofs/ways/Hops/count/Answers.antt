use Rattle.std.proofs.Common.{sym, arith}
use Rattle.paths.specs.Walks.{node-start}
use Rattle.paths.specs.Walked.{walk-short, walk-all}
use Rattle.requests.specs.Ways.{on_way, hop_on}
use Rattle.requests.proofs.ways.Hops.count.Goals as goal

pub loop-at-init : goal.loop-at-init
loop-at-init g c = record { bound = omega arith; here = sym (node-start (g.Self.Hops.next c.args.self) c.args.s c.args.t) }

pub hop-at-requires : goal.hop-at-requires
hop-at-requires g c =
    let a = c.args in
    let v = c.loop-at.invariant in
    on_way c.requires.between c.requires.way v.bound v.here

pub loop-at-preserved : goal.loop-at-preserved
loop-at-preserved g c =
    let a = c.args in
    let next = g.Self.Hops.next a.self in
    let v = c.loop-at.invariant in
    record {
      bound = omega (arith, walk-short next a.s a.t (g.Self.Hops.hops a.self a.s a.t) c.requires.way.arrives v.bound v.here c.loop-at-test.true);
      here = hop_on next a.s a.t c.loop-at.n v.here c.hop-at.ensures;
    }

pub returns : goal.returns
returns g c =
    let a = c.args in
    let v = c.loop-at.invariant in
    walk-all (g.Self.Hops.next a.self) a.s a.t (g.Self.Hops.hops a.self a.s a.t) c.requires.way.arrives v.bound v.here c.loop-at-test.false
