use Rattle.std.proofs.Common.{ℕ, ◌<◌, refl, sym, ◌∙◌, inl, inr, List, arith, length}
use Rattle.around_search.specs.Room.{labelled}
use Rattle.around_search.specs.Search.{tail_fits, as_roomy, searched}
use Rattle.around_search.proofs.levels.search.Invariants.{Inv}
use Rattle.around_search.proofs.levels.search.Goals as goal

-- the source has its place
placed : {kind n links source : ℕ} {room₀ room : List ℕ} {head tail : ℕ} → Inv kind n links source room₀ room head tail → source < length room
placed v = let (stopped, t, S, R) = v.some in omega (arith, S.relay, v.ground.enough)

pub loop-head-init : goal.loop-head-init
loop-head-init c =
    let (stopped, t, S) = c.requires in
    record { long = refl; ground = S.ground; some = (stopped, t, S, S.begun); all = λ stopped t S. S.begun }

pub hops-hops-requires : goal.hops-hops-requires
hops-hops-requires c = placed c.loop-head.invariant

pub returns-then-is_some : goal.returns-then-is_some
returns-then-is_some c = λ stopped t S. searched S (c.loop-head.invariant.all stopped t S) c.hops-hops.ensures (inl (labelled _ (sym c.if-is_some.ensures)))

pub spread-tail-requires : goal.spread-tail-requires
spread-tail-requires c =
    let v = c.loop-head.invariant in
    let (stopped, t, S, R) = v.some in
    (stopped, t, record { ground = v.ground; before = c.loop-head-test.true; sought = R })

pub overflow_add-head : goal.overflow_add-head
overflow_add-head c =
    let v = c.loop-head.invariant in
    let (stopped, t, S, R) = v.some in
    omega (arith, c.loop-head-test.true, tail_fits v.ground R, v.ground.small)

pub loop-head-smaller : goal.loop-head-smaller
loop-head-smaller c =
    let v = c.loop-head.invariant in
    let (stopped, t, S, R) = v.some in
    omega (arith, c.loop-head-test.true, tail_fits v.ground R)

pub loop-head-preserved : goal.loop-head-preserved
loop-head-preserved c =
    let v = c.loop-head.invariant in
    let (stopped, t, S, R) = v.some in
    let k = c.spread-tail.auto.lent in
    record {
      long = k ∙ v.long;
      ground = as_roomy v.ground k;
      some = (stopped, t, S, c.spread-tail.ensures stopped t R);
      all = λ stopped t S. c.spread-tail.ensures stopped t (v.all stopped t S);
    }

pub hops-requires : goal.hops-requires
hops-requires c = placed c.loop-head.invariant

pub returns : goal.returns
returns c = λ stopped t S. searched S (c.loop-head.invariant.all stopped t S) c.hops.ensures (inr (omega (arith, c.loop-head-test.false)))
