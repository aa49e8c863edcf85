use Rattle.std.proofs.Common.{ℕ, ◌+◌, ◌-◌, ◌≤◌, ◌≡◌, ap, ◌∙◌, subst, sym, Bool, true, false, List, arith, rules, length, length-drop, take, drop}
use lib.Seq.{sets}
use Rattle.scan.specs.Scan.{pick}
use Rattle.book.specs.Pieces.{live}
use Rattle.book_parts.specs.Moved.{pasted}
use Rattle.book_close.specs.Slides.{Sliding, sliding_starts, sliding_long, sliding_piece, sliding_more, sliding_ends}
use Rattle.book_close.proofs.close_bytes.Goals as goal

few_stay : {k : ℕ} (b : Bool) (n : ℕ) → k ≡ pick b n 0 → k ≤ n
few_stay true n e = omega arith
few_stay false n e = omega arith

pub loop-at-init : goal.loop-at-init
loop-at-init c = sliding_starts c.args.bytes.now c.args.end c.requires

pub overflow_sub-end : goal.overflow_sub-end
overflow_sub-end c = omega (arith, c.loop-at.invariant.within)

pub piece-n-requires : goal.piece-n-requires
piece-n-requires c = let v = c.loop-at.invariant in (omega (arith, v.within, c.loop-at-test.true), omega (arith, v.fits, sliding_long v))

pub staying-m-requires : goal.staying-m-requires
staying-m-requires c = let v = c.loop-at.invariant in omega (arith, v.within, v.fits, sliding_long v, c.loop-at-test.true)

pub copy_within-requires : goal.copy_within-requires
copy_within-requires c =
    let v = c.loop-at.invariant in
    let p = sliding_piece v c.loop-at-test.true c.piece-n.ensures in
    let few = few_stay (live (drop c.loop-at.at c.loop-at.bytes)) c.piece-n.result c.staying-m.ensures in
    record {
      start_le_end = omega arith;
      in_bounds = omega (arith, p.1, v.fits, sliding_long v, few);
      dest_in_bounds = omega (arith, p.1, v.fits, v.few, sliding_long v, few);
      not_exhausted = tt;
    }

pub overflow_add-to : goal.overflow_add-to
overflow_add-to c = let v = sliding_more c.loop-at.invariant c.loop-at-test.true c.piece-n.ensures c.staying-m.ensures in omega (arith, v.few, v.within)

pub overflow_add-at : goal.overflow_add-at
overflow_add-at c = let v = sliding_more c.loop-at.invariant c.loop-at-test.true c.piece-n.ensures c.staying-m.ensures in omega (arith, v.within)

pub loop-at-smaller : goal.loop-at-smaller
loop-at-smaller c =
    let p = sliding_piece c.loop-at.invariant c.loop-at-test.true c.piece-n.ensures in
    omega (arith, p.0, p.1)

pub loop-at-preserved : goal.loop-at-preserved
loop-at-preserved c =
    let v = c.loop-at.invariant in
    let p = sliding_piece v c.loop-at-test.true c.piece-n.ensures in
    let few = few_stay (live (drop c.loop-at.at c.loop-at.bytes)) c.piece-n.result c.staying-m.ensures in
    let x = c.loop-at in
    let n : x.at + c.staying-m.result - x.at ≡ c.staying-m.result = omega arith in
    subst (λ (l : List ℕ). Sliding c.args.bytes.now c.args.end l (x.at + c.piece-n.result) (x.to + c.staying-m.result))
    (sym (c.copy_within.ensures.after
    ∙ pasted x.bytes x.to (drop x.at x.bytes) (x.at + c.staying-m.result - x.at) (omega (arith, p.1, v.fits, sliding_long v, few, length-drop x.at x.bytes)) (omega (arith, p.1, v.fits, v.few, sliding_long v, few))
    ∙ ap (λ (k : ℕ). sets x.bytes x.to (take k (drop x.at x.bytes))) n))
    (sliding_more v c.loop-at-test.true c.piece-n.ensures c.staying-m.ensures)

pub returns : goal.returns
returns c =
    let all = sliding_ends c.loop-at.invariant c.loop-at-test.false in
    record {
      value = all.0;
      bytes_after = all.1;
    }
