use Rattle.std.proofs.Common.{ℕ, suc, ◌+◌, ◌<◌, ◌≡◌, List, subst, sym, arith, get_or}
use Rattle.two_math.specs.Gates.{cand, cand-near, Near}
use Rattle.two_gate.specs.Says.{Other, None, none_more, serves, some_serves, small, cand_small}
use Rattle.two_gate.proofs.gate_for.Invariants.{Fails}
use Rattle.two_gate.proofs.gate_for.Goals as goal

-- one candidate more
fails_more : (m s0 k : ℕ) (blocks slots gates : List ℕ) (done j n q : ℕ) → Fails m s0 k blocks slots gates done j n → q ≡ cand m (get_or slots j 0) n
    → (None (Other s0 blocks slots gates done j q) k → ⊥) → Fails m s0 k blocks slots gates done j (n + 1)
fails_more m s0 k blocks slots gates done j n q h e bad =
    none_more (λ c. None (Other s0 blocks slots gates done j (cand m (get_or slots j 0) c)) k) n h (λ z. bad (subst (λ (y : ℕ). None (Other s0 blocks slots gates done j y) k) (sym e) z))

pub passes-requires : goal.passes-requires
passes-requires c =
    let p = get_or c.args.targets.now.slots c.args.j 0 in (
      omega (arith, c.requires.few, c.requires.order),
      omega (arith, c.requires.few, c.requires.order, c.requires.lt),
      subst (λ (y : ℕ). y < 64) (sym c.candidate-q.ensures) (cand_small c.args.home.order p c.loop-c.c c.requires.order (c.requires.slot c.args.j) (omega arith)),
      (λ i. small c.args.home.order (get_or c.args.targets.now.slots i 0) c.requires.order (c.requires.slot i)),
      (λ i. small c.args.home.order (get_or c.args.gates.now.slots i 0) c.requires.order (c.requires.gate i)),
    )

pub returns-then-passes : goal.returns-then-passes
returns-then-passes c =
    let a = c.args in
    serves a.home.order a.home.block a.targets.now.count a.targets.now.blocks a.targets.now.slots a.gates.now.gated a.gates.now.slots a.j c.candidate-q.result c.requires
    (subst (λ (y : ℕ). Near a.home.order (get_or a.targets.now.slots a.j 0) y) (sym c.candidate-q.ensures) (cand-near a.home.order (get_or a.targets.now.slots a.j 0) c.loop-c.c (omega arith)))
    (c.passes.ensures.so c.if-passes.true)

pub returns-else-passes : goal.returns-else-passes
returns-else-passes c =
    let a = c.args in
    let e : c.loop-c.c + 1 ≡ suc a.home.order = omega arith in
    let all = fails_more a.home.order a.home.block a.targets.now.count a.targets.now.blocks a.targets.now.slots a.gates.now.slots a.gates.now.gated a.j _ _ c.loop-c.invariant.none c.candidate-q.ensures (c.passes.ensures.not c.if-passes.false) in
    absurd (some_serves a.home.order a.home.block a.targets.now.count a.targets.now.blocks a.targets.now.slots a.gates.now.gated a.gates.now.slots a.j c.requires (subst (λ (y : ℕ). Fails a.home.order a.home.block a.targets.now.count a.targets.now.blocks a.targets.now.slots a.gates.now.slots a.gates.now.gated a.j y) e all))
