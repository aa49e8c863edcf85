-- `meta_parts::sizes::span_in` meets its contract. Assumes nothing.
use Rattle.std.proofs.Common.{ℕ, ◌*◌, ◌^◌, ◌≡◌, ap, ap₂, ◌∙◌, rules, arith}
use Rattle.meta_parts.specs.Meta.{class_bits, part_bits}
use Rattle.meta_parts.specs.Sizes.{span_small}
use Rattle.meta_parts.proofs.sizes.span_in.Goals as goal

pub overflow_cast-class_bits : goal.overflow_cast-class_bits
overflow_cast-class_bits c = omega (arith, c.class_bits.ensures, c.requires)

pub power-requires : goal.power-requires
power-requires c = omega (arith, c.class_bits.ensures, c.requires)

pub overflow_mul-result : goal.overflow_mul-result
overflow_mul-result c = omega (arith, (let product : c.part_bits.result * c.power.result ≡ part_bits c.args.size.0 * 2 ^ class_bits c.args.size.0 = ap₂ (λ (x y : ℕ). x * y) c.part_bits.ensures (c.power.ensures ∙ ap (λ (k : ℕ). 2 ^ k) c.class_bits.ensures) in product), span_small c.args.size.0 c.requires)

pub returns : goal.returns
returns c = (let product : c.part_bits.result * c.power.result ≡ part_bits c.args.size.0 * 2 ^ class_bits c.args.size.0 = ap₂ (λ (x y : ℕ). x * y) c.part_bits.ensures (c.power.ensures ∙ ap (λ (k : ℕ). 2 ^ k) c.class_bits.ensures) in product)
