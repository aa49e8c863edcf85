use Rattle.std.proofs.Common.{◌^◌, sym, ap, ◌∙◌, one-mul, arith, shl_exact, bit_xor}
use Rattle.bits.specs.Bit.{flip}
use Rattle.two_math.specs.Gates.{cand-last, cand-other}
use Rattle.two_gate.proofs.candidate.Goals as goal

-- src/lib.rt:46:9
pub returns-then-c-m : goal.returns-then-c-m
returns-then-c-m c = sym (cand-last c.args.m c.args.p c.args.c c.if-c-m.true)

-- src/lib.rt:41:1
pub returns : goal.returns
unfolding flip
returns c =
    let a = c.args in
    ap (bit_xor a.p) (shl_exact 1 a.c 32 (omega arith) (omega arith) ∙ one-mul (2 ^ a.c)) ∙ sym (cand-other a.m a.p a.c c.if-c-m.false)
