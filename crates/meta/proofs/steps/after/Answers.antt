-- `meta::steps::after` meets its contract. Assumes nothing.
use Rattle.std.proofs.Common.{ℕ, ◌+◌, ◌/◌, ◌%◌, ap, ◌∙◌, arith, bit_xor}
use Rattle.bits.specs.Gray.{gray}
use Rattle.meta_parts.specs.Sizes.{classes_few}
use Rattle.meta.specs.Cycle.{place, after}
use Rattle.meta.proofs.Cycle.{place-few}
use Rattle.meta.proofs.steps.after.Goals as goal

pub overflow_add-place : goal.overflow_add-place
overflow_add-place c = omega (arith, place-few c.args.c (omega (arith, c.requires.below, classes_few c.requires.few)))

pub overflow_cast-k : goal.overflow_cast-k
overflow_cast-k c = omega (arith, c.requires.few)

pub power-requires : goal.power-requires
power-requires c = omega (arith, c.requires.few)

pub returns : goal.returns
unfolding after place
returns c =
    let a = c.args in
    c.gray.ensures ∙ ap (λ (x : ℕ). gray ((bit_xor (bit_xor a.c (a.c / 2)) (a.c / 4) + 1) % x)) c.power.ensures
