use Rattle.std.proofs.Common.{refl, ap, ◌∙◌, arith}
use Rattle.around_search.specs.Room.{label}
use Rattle.around_search.specs.Search.{tail_fits, next-label, begun, visits, as_roomy, spread_more, spread_all}
use Rattle.around_search.proofs.levels.spread.Goals as goal

pub queued-x-requires : goal.queued-x-requires
queued-x-requires c = let (stopped, t, S) = c.requires in omega (arith, S.before, tail_fits S.ground S.sought, S.ground.enough)

pub label-label-requires : goal.label-label-requires
label-label-requires c = let (stopped, t, S) = c.requires in omega (arith, c.queued-x.ensures, S.sought.reached.relay c.args.head S.before, S.ground.enough)

pub overflow_add-label : goal.overflow_add-label
overflow_add-label c =
    let (stopped, t, S) = c.requires in
    omega (arith, c.label-label.ensures, ap (label c.args.lent.now) c.queued-x.ensures, next-label S.ground S.sought S.before)

pub loop-i-init : goal.loop-i-init
loop-i-init c =
    let (stopped, t, S) = c.requires in
    record {
      long = refl;
      ground = S.ground;
      some = (stopped, t, begun c.args.links S.sought S.before c.queued-x.ensures (omega (arith, c.label-label.ensures)));
      all = λ stopped t R. begun c.args.links R S.before c.queued-x.ensures (omega (arith, c.label-label.ensures));
    }

pub near-requires : goal.near-requires
near-requires c =
    let v = c.loop-i.invariant in
    let (stopped, t, S) = v.some in
    record {
      size_value = v.ground.there;
      u_bound = omega (arith, S.front, S.sought.reached.relay c.args.head S.before);
      i_bound = omega (arith, c.loop-i-test.true, v.ground.linked);
    }

pub visit-end-requires : goal.visit-end-requires
visit-end-requires c =
    let v = c.loop-i.invariant in
    let (stopped, t, S) = v.some in
    visits v.ground S c.loop-i-test.true c.near.ensures

pub loop-i-preserved : goal.loop-i-preserved
loop-i-preserved c =
    let v = c.loop-i.invariant in
    let (stopped, t, S) = v.some in
    let d = c.loop-i-test.true in
    let k = c.visit-end.auto.lent in
    record {
      long = k ∙ v.long;
      ground = as_roomy v.ground k;
      some = (stopped, t, spread_more v.ground S d c.near.ensures c.visit-end.ensures);
      all = λ stopped t R. spread_more v.ground (v.all stopped t R) d c.near.ensures c.visit-end.ensures;
    }

pub returns : goal.returns
returns c = let v = c.loop-i.invariant in λ stopped t R. spread_all v.ground (v.all stopped t R) (omega arith)
