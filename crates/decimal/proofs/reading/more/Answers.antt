use Rattle.std.proofs.Common.{◌∙◌, arith, get_or}
use Rattle.decimal.specs.Read.{tested, reading-on, reading-over, reading-end, reading_all, on_byte}
use Rattle.decimal.proofs.reading.more.Goals as goal

pub returns-then-not-is_ascii_digit : goal.returns-then-not-is_ascii_digit
returns-then-not-is_ascii_digit c =
    reading-end _ _ _ c.loop-i.invariant (on_byte _ _ c.loop-i-test.true ∙ tested (get_or c.args.text.now c.loop-i.i 0) c.is_ascii_digit.ensures.value c.if-not-is_ascii_digit.true)

pub returns-in_err-v : goal.returns-in_err-v
returns-in_err-v c =
    rw c.from_residual.ensures
    (reading-over _ _ _ c.loop-i.invariant c.loop-i-test.true (tested (get_or c.args.text.now c.loop-i.i 0) c.is_ascii_digit.ensures.value c.if-not-is_ascii_digit.false) (omega (arith, c.in_err-v.ensures)))

pub loop-i-preserved : goal.loop-i-preserved
loop-i-preserved c =
    reading-on _ _ _ c.loop-i.invariant c.loop-i-test.true (tested (get_or c.args.text.now c.loop-i.i 0) c.is_ascii_digit.ensures.value c.if-not-is_ascii_digit.false) c.in_ok-v.ensures.0 c.in_ok-v.ensures.1

pub returns : goal.returns
returns c = reading_all _ _ _ c.loop-i.invariant (omega arith)
