-- `two_takeover::step` meets its contract. Assumes nothing.
use Rattle.std.proofs.Common.{ℕ, ◌^◌, ◌∙◌, sym, subst, one-mul, arith, bit_xor, shl_exact}
use Rattle.bits.specs.Bit.{flip}
use Rattle.bits.specs.Laws.{xor-zero-eq}
use Rattle.two_write.specs.Walked.{Next, next_lowest}
use Rattle.two_takeover.specs.Over.{dim_small}
use Rattle.two_takeover.proofs.step.Goals as goal

pub lowest-requires : goal.lowest-requires
lowest-requires c = λ z. c.requires.2 (xor-zero-eq c.args.here c.args.to (sym c.from.ensures ∙ z))

pub overflow_shl-result : goal.overflow_shl-result
overflow_shl-result c = omega (arith, dim_small c.args.here c.args.to _ c.requires.0 c.requires.1 (rw c.from.ensures at c.lowest.ensures))

pub returns : goal.returns
unfolding flip
returns c =
    let a = c.args in
    let d = c.lowest.result in
    subst (λ (y : ℕ). Next a.here a.to (bit_xor a.here y))
    (sym (shl_exact 1 d 32 (omega arith) (omega (arith, dim_small a.here a.to d c.requires.0 c.requires.1 (rw c.from.ensures at c.lowest.ensures))) ∙ one-mul (2 ^ d)))
    (next_lowest a.here a.to d (rw c.from.ensures at c.lowest.ensures))
