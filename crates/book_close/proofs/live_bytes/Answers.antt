use Rattle.std.proofs.Common.{◌+◌, ◌-◌, arith, rules}
use Rattle.book_close.specs.Slides.{Counting, counting_starts, counting_more, counting_ends}
use Rattle.book_close.specs.Slides as slides
use Rattle.book_close.proofs.live_bytes.Goals as goal

pub loop-at-init : goal.loop-at-init
loop-at-init c = counting_starts c.args.bytes.now c.args.end c.requires

pub overflow_sub-end : goal.overflow_sub-end
overflow_sub-end c = omega (arith, c.loop-at.invariant.within)

pub piece-n-requires : goal.piece-n-requires
piece-n-requires c = let v = c.loop-at.invariant in (omega (arith, v.within, c.loop-at-test.true), v.fits)

pub staying-sum-requires : goal.staying-sum-requires
staying-sum-requires c = let v = c.loop-at.invariant in omega (arith, v.within, v.fits, c.loop-at-test.true)

pub overflow_add-sum : goal.overflow_add-sum
overflow_add-sum c = let v = counting_more c.loop-at.invariant c.loop-at-test.true c.piece-n.ensures c.staying-sum.ensures in omega (arith, v.few, v.within)

pub overflow_add-at : goal.overflow_add-at
overflow_add-at c = let v = counting_more c.loop-at.invariant c.loop-at-test.true c.piece-n.ensures c.staying-sum.ensures in omega (arith, v.within)

pub loop-at-smaller : goal.loop-at-smaller
loop-at-smaller c =
    let v = c.loop-at.invariant in
    let p = slides.piece_long _ _ _ v.fits (omega (arith, v.within, c.loop-at-test.true)) c.piece-n.ensures in
    omega (arith, p.0, p.1)

pub loop-at-preserved : goal.loop-at-preserved
loop-at-preserved c = counting_more c.loop-at.invariant c.loop-at-test.true c.piece-n.ensures c.staying-sum.ensures

pub returns : goal.returns
returns c = counting_ends c.loop-at.invariant c.loop-at-test.false
