-- The invariant: after k hops, of at most as many as are needed, the walk is at `at`. Assumes nothing.
use Rattle.std.proofs.Common.{ℕ, ◌-◌, ◌≤◌, ◌≡◌}
use Rattle.paths.specs.Walk.{node}
use Rattle.requests.proofs.ways.Hops.count.Given as goal

pub record Inv (next : ℕ → ℕ → ℕ) (s t h at k : ℕ) : Type 0 where
  pub bound : k ≤ h
  pub here : at ≡ node next s t k

abbrev pub invariant-loop-at : goal.invariant-loop-at
invariant-loop-at g l = Inv (g.Self.Hops.next l.self) l.s l.t (g.Self.Hops.hops l.self l.s l.t) l.at l.n

abbrev pub decreases-loop-at : goal.decreases-loop-at
decreases-loop-at g l = g.Self.Hops.hops l.self l.s l.t - l.n
