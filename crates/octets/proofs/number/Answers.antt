use Rattle.std.proofs.Common.{◌+◌, ◌≡◌, ◌∙◌, ◌<◌, arith, get_or}
use Rattle.octets.specs.Turns.{reading_starts, reading-room, reading-more, reading-ends, part_byte, part-within}
use Rattle.octets.proofs.number.Goals as goal

pub loop-byte-init : goal.loop-byte-init
loop-byte-init c = reading_starts c.args.bytes.now c.args.at c.args.w

pub overflow_mul-value : goal.overflow_mul-value
overflow_mul-value c =
    let h : c.loop-byte.byte-index < c.args.w = part-within _ c.args.at _ _ c.loop-byte-test.true in
    omega (arith, reading-room c.loop-byte.invariant h c.requires.1)

pub overflow_add-value : goal.overflow_add-value
overflow_add-value c =
    let a = c.args in
    let h : c.loop-byte.byte-index < a.w = part-within _ a.at _ _ c.loop-byte-test.true in
    let byte : c.from.result ≡ get_or a.bytes.now (a.at + c.loop-byte.byte-index) 0 = c.from.ensures ∙ part_byte _ a.at _ _ h in
    omega (arith, reading-room c.loop-byte.invariant h c.requires.1, c.type_inv.bytes (a.at + c.loop-byte.byte-index))

pub loop-byte-preserved : goal.loop-byte-preserved
loop-byte-preserved c =
    let a = c.args in
    let h : c.loop-byte.byte-index < a.w = part-within _ a.at _ _ c.loop-byte-test.true in
    let byte : c.from.result ≡ get_or a.bytes.now (a.at + c.loop-byte.byte-index) 0 = c.from.ensures ∙ part_byte _ a.at _ _ h in
    reading-more c.loop-byte.invariant h byte (omega (arith, c.type_inv.bytes (a.at + c.loop-byte.byte-index)))

pub returns : goal.returns
returns c = reading-ends c.loop-byte.invariant (omega arith)
