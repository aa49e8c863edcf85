use Rattle.std.proofs.Common.{ℕ, ◌≤◌, ◌<◌, ◌≡◌, sym, ap, ◌∙◌, arith}
use native.Mathlib.Decide.{ℕ_discrete}
use Rattle.mesh.specs.Kinds.{kind_of}
use Rattle.mesh.specs.Laws.{known-near}
use Rattle.around_search.specs.Room.{label}
use Rattle.around_search.proofs.ways.down.Goals as goal

-- a link more that does not lead there
missed : {i k : ℕ} {A : Type 0} → Dec (k ≡ i) → (k < i → A) → (k ≡ i → A) → k ≤ i → A
missed (yes e) before here l = here e
missed (no ne) before here l = before (omega arith)

pub loop-i-init : goal.loop-i-init
loop-i-init c = (c.requires, λ k h. absurd (omega arith))

pub near-v-requires : goal.near-v-requires
near-v-requires c =
    let D = c.loop-i.invariant.0 in record {
      size_value = D.ground.there;
      u_bound = D.relay;
      i_bound = omega (arith, c.loop-i-test.true, D.ground.linked);
    }

pub label-requires : goal.label-requires
label-requires c =
    let D = c.loop-i.invariant.0 in
    let a = c.args in
    omega (arith, c.near-v.ensures, D.ground.enough, (known-near a.mesh.kind a.mesh.size D.ground.there).below a.u c.loop-i.i D.relay (omega (arith, c.loop-i-test.true, D.ground.linked)))

pub returns-then-label-want : goal.returns-then-label-want
returns-then-label-want c =
    record { link = (c.loop-i.i, c.loop-i-test.true, c.near-v.ensures); labelled = sym c.label.ensures ∙ c.if-label-want.true }

pub loop-i-preserved : goal.loop-i-preserved
loop-i-preserved c =
    let v = c.loop-i.invariant in
    (v.0, λ k h. missed (ℕ_discrete k c.loop-i.i) (λ l. v.1 k l) (λ e z. c.if-label-want.false (c.label.ensures ∙ ap (label c.args.lent.now) (c.near-v.ensures ∙ ap ((kind_of c.args.mesh.kind).near c.args.mesh.size c.args.u) (sym e)) ∙ z)) (omega arith))

pub returns : goal.returns
returns c =
    let v = c.loop-i.invariant in
    let (k, h, e) = v.0.some in
    absurd (v.1 k (omega (arith, c.loop-i-test.false)) e)
