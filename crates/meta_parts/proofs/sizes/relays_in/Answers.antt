-- `meta_parts::sizes::relays_in` meets its contract. Assumes nothing.
use Rattle.std.proofs.Common.{ℕ, ◌+◌, ◌^◌, refl, ap₂, ◌∙◌, rules, arith}
use Rattle.meta_parts.specs.Sizes.{known-sized}
use Rattle.meta_parts.proofs.sizes.relays_in.Goals as goal

pub span_in-requires : goal.span_in-requires
span_in-requires c = (known-sized c.args.size.0 refl c.requires).few

pub overflow_add-class_bits : goal.overflow_add-class_bits
overflow_add-class_bits c = omega (arith, c.class_bits.ensures, c.span_in.ensures, (known-sized c.args.size.0 refl c.requires).narrow)

pub overflow_cast-class_bits : goal.overflow_cast-class_bits
overflow_cast-class_bits c = omega (arith, c.class_bits.ensures, c.span_in.ensures, (known-sized c.args.size.0 refl c.requires).narrow)

pub power-requires : goal.power-requires
power-requires c = omega (arith, c.class_bits.ensures, c.span_in.ensures, (known-sized c.args.size.0 refl c.requires).narrow)

pub returns : goal.returns
returns c = c.power.ensures ∙ ap₂ (λ (x y : ℕ). 2 ^ (x + y)) c.class_bits.ensures c.span_in.ensures
