use Rattle.std.proofs.Common.{ℕ, ◌+◌, ◌≤◌, List, get_or}
use Rattle.two_math.specs.Gates.{cand}
use Rattle.two_gate.specs.Says.{Other, None}
use Rattle.two_gate.proofs.gate_for.Given as goal

-- none of the candidates before c serves
abbrev pub Fails : (m s0 k : ℕ) (blocks slots gates : List ℕ) (done j : ℕ) → ℕ → Type 0
Fails m s0 k blocks slots gates done j n = None (λ c. None (Other s0 blocks slots gates done j (cand m (get_or slots j 0) c)) k) n

pub record Inv (m s0 k : ℕ) (blocks slots gates : List ℕ) (done j c : ℕ) : Type 0 where
  pub bound : c ≤ m + 1
  pub none : Fails m s0 k blocks slots gates done j c

abbrev pub invariant-loop-c : goal.invariant-loop-c
invariant-loop-c l = Inv l.home.order l.home.block l.targets.count l.targets.blocks l.targets.slots l.gates.slots l.gates.gated l.j l.c
