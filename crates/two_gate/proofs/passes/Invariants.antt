use Rattle.std.proofs.Common.{ℕ, ◌≤◌, List}
use Rattle.two_gate.specs.Says.{Other, None}
use Rattle.two_gate.proofs.passes.Given as goal

pub record Inv (s0 : ℕ) (blocks slots gates : List ℕ) (done j q k i : ℕ) : Type 0 where
  pub bound : i ≤ k
  pub none : None (Other s0 blocks slots gates done j q) i

abbrev pub invariant-loop-i : goal.invariant-loop-i
invariant-loop-i l = Inv l.s0 l.targets.blocks l.targets.slots l.gates.slots l.gates.gated l.j l.q l.targets.count l.i
