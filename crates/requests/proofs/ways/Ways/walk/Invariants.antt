-- The invariant: after k hops the walk is at `at`, and the relays before it are written. Assumes nothing.
use Rattle.std.proofs.Common.{◌-◌}
use Rattle.paths.specs.Walked.{Walked}
use Rattle.requests.proofs.ways.Ways.walk.Given as goal

abbrev pub invariant-loop-at : goal.invariant-loop-at
invariant-loop-at g l = Walked (g.Self.Hops.next l.self) l.s l.t (g.Self.Hops.hops l.self l.s l.t) l.initial.out l.out l.at l.k

abbrev pub decreases-loop-at : goal.decreases-loop-at
decreases-loop-at g l = g.Self.Hops.hops l.self l.s l.t - l.k
