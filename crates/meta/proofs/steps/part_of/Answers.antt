-- `meta::steps::part_of` meets its contract. Assumes nothing.
use Rattle.std.proofs.Common.{ℕ, ◌*◌, ◌/◌, ◌%◌, ◌^◌, ap, arith}
use Rattle.meta_parts.specs.Meta.{part}
use Rattle.meta.proofs.steps.part_of.Goals as goal

pub overflow_mul-result : goal.overflow_mul-result
overflow_mul-result c = omega (arith, c.requires.within)

pub overflow_shr-result : goal.overflow_shr-result
overflow_shr-result c = omega (arith, c.requires.within)

pub overflow_cast-m : goal.overflow_cast-m
overflow_cast-m c = omega (arith, c.requires.narrow)

pub power-requires : goal.power-requires
power-requires c = omega (arith, c.requires.narrow)

pub returns : goal.returns
unfolding part
returns c = let a = c.args in ap (λ (x : ℕ). a.y / 2 ^ (a.m * a.c) % x) c.power.ensures
