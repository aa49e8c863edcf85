use Rattle.std.proofs.Common.{◌+◌, refl, ◌∙◌, arith, length-set}
use Rattle.around_search.specs.Trace.{trace_starts, as_long, goes_down, trace_more, trace_all}
use Rattle.around_search.proofs.ways.trace.Goals as goal

pub bounds-out-0 : goal.bounds-out-0
bounds-out-0 c = let (stopped, t, T) = c.requires in omega (arith, T.fits)

pub loop-i-init : goal.loop-i-init
loop-i-init c =
    let (stopped, t, T) = c.requires in
    let a = c.args in
    let k = length-set a.out.now 0 a.source in
    record {
      bound = omega arith;
      long = refl;
      some = (stopped, t, as_long T k, trace_starts a.out.now T (omega (arith, T.fits)));
      all = λ stopped t T. trace_starts a.out.now T (omega (arith, T.fits, k));
    }

pub down-at-requires : goal.down-at-requires
down-at-requires c = let (stopped, t, T, W) = c.loop-i.invariant.some in goes_down T W c.loop-i-test.true (omega (arith, c.loop-i-test.true))

pub bounds-out-i : goal.bounds-out-i
bounds-out-i c = let v = c.loop-i.invariant in let (stopped, t, T, W) = v.some in omega (arith, c.loop-i-test.true, T.fits, v.long)

pub loop-i-preserved : goal.loop-i-preserved
loop-i-preserved c =
    let v = c.loop-i.invariant in
    let (stopped, t, T, W) = v.some in
    let h = c.loop-i-test.true in
    record {
      bound = omega (arith, h);
      long = length-set c.loop-i.out (c.loop-i.i + 1) c.down-at.result ∙ v.long;
      some = (stopped, t, T, trace_more T W h (omega (arith, h)) (omega (arith, h, T.fits)) c.down-at.ensures);
      all = λ stopped t T. trace_more T (v.all stopped t T) h (omega (arith, h)) (omega (arith, h, T.fits)) c.down-at.ensures;
    }

pub returns : goal.returns
returns c =
    let v = c.loop-i.invariant in
    let a = c.args in
    λ stopped t T. trace_all T refl (v.all stopped t (as_long T (length-set a.out.now 0 a.source))) (omega (arith, v.bound, c.loop-i-test.false))
