use Rattle.std.proofs.Common.{refl, sym, ap, ◌∙◌, ◌≡◌, ℕ, ◌<◌, arith}
use Rattle.book.specs.Open.{piece_length}
use Rattle.book_open.specs.Opens.{going_starts, going_ends, going_bad, going_enter, going_size, going_again, going_full, going_more, part-size, part-enter, part-kept}
use Rattle.book_open.proofs.gather.Goals as goal

pub loop-at-init : goal.loop-at-init
loop-at-init c = going_starts _ _ _ c.requires

pub piece-requires : goal.piece-requires
piece-requires c = c.loop-at.invariant.near

pub returns-in_default : goal.returns-in_default
returns-in_default c = going_bad c.loop-at.invariant c.loop-at-test.true {size = 0} (part-size c.args.bytes.now c.loop-at.at (sym c.in_default.ensures)) refl

pub enter-requires : goal.enter-requires
enter-requires c = part-enter c.args.bytes.now c.loop-at.at (going_enter c.loop-at.invariant c.loop-at-test.true (part-size c.args.bytes.now c.loop-at.at c.in-Some.ensures.0) c.in-Some.ensures.1)

pub returns-in-Err-Again : goal.returns-in-Err-Again
returns-in-Err-Again c = going_again c.loop-at.invariant c.loop-at-test.true (part-size c.args.bytes.now c.loop-at.at c.in-Some.ensures.0) c.in-Some.ensures.1 (part-kept c.args.bytes.now c.loop-at.at c.enter.ensures) (cc)

pub returns-in-Err-Full : goal.returns-in-Err-Full
returns-in-Err-Full c = going_full c.loop-at.invariant c.loop-at-test.true (part-size c.args.bytes.now c.loop-at.at c.in-Some.ensures.0) c.in-Some.ensures.1 (part-kept c.args.bytes.now c.loop-at.at c.enter.ensures) (cc)

pub overflow_add-at : goal.overflow_add-at
overflow_add-at c = omega (arith, (going_size c.loop-at.invariant c.loop-at-test.true (part-size c.args.bytes.now c.loop-at.at c.in-Some.ensures.0) c.in-Some.ensures.1).1)

pub loop-at-smaller : goal.loop-at-smaller
loop-at-smaller c = let s = going_size c.loop-at.invariant c.loop-at-test.true (part-size c.args.bytes.now c.loop-at.at c.in-Some.ensures.0) c.in-Some.ensures.1 in omega (arith, s.0, s.2, c.loop-at-test.true)

pub loop-at-preserved : goal.loop-at-preserved
loop-at-preserved c = going_more c.loop-at.invariant c.loop-at-test.true (part-size c.args.bytes.now c.loop-at.at c.in-Some.ensures.0) c.in-Some.ensures.1 (part-kept c.args.bytes.now c.loop-at.at c.enter.ensures) (cc)

pub returns : goal.returns
returns c = going_ends c.loop-at.invariant c.loop-at-test.false
