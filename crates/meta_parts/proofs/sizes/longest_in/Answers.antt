-- `meta_parts::sizes::longest_in` meets its contract. Assumes nothing.
use Rattle.std.proofs.Common.{ℕ, ◌+◌, ◌-◌, ◌^◌, ◌≤◌, refl, ap, ap₂, ◌∙◌, rules, arith, pow_pos}
use Rattle.meta_parts.specs.Meta.{class_bits}
use Rattle.meta_parts.specs.Sizes.{Sized, known-sized, classes_few}
use Rattle.meta_parts.proofs.sizes.longest_in.Goals as goal

pub overflow_cast-k : goal.overflow_cast-k
overflow_cast-k c = omega (arith, (let few : c.class_bits-k.result ≤ 3 = omega (arith, c.class_bits-k.ensures, (known-sized c.args.size.0 refl c.requires).few) in few))

pub power-requires : goal.power-requires
power-requires c = omega (arith, (let few : c.class_bits-k.result ≤ 3 = omega (arith, c.class_bits-k.ensures, (known-sized c.args.size.0 refl c.requires).few) in few))

pub overflow_sub-result : goal.overflow_sub-result
overflow_sub-result c = omega (arith, c.power.ensures, pow_pos c.class_bits-k.result)

pub overflow_add-result : goal.overflow_add-result
overflow_add-result c = omega (arith, c.power.ensures, (let few : c.class_bits-k.result ≤ 3 = omega (arith, c.class_bits-k.ensures, (known-sized c.args.size.0 refl c.requires).few) in few), classes_few ((let few-2 : c.class_bits-k.result ≤ 3 = omega (arith, c.class_bits-k.ensures, (known-sized c.args.size.0 refl c.requires).few) in few-2)))

pub span_in-requires : goal.span_in-requires
span_in-requires c = (known-sized c.args.size.0 refl c.requires).few

pub overflow_add-result-2 : goal.overflow_add-result-2
overflow_add-result-2 c =
    omega (arith, c.span_in.ensures, c.power.ensures, (let few : c.class_bits-k.result ≤ 3 = omega (arith, c.class_bits-k.ensures, (known-sized c.args.size.0 refl c.requires).few) in few), classes_few ((let few-2 : c.class_bits-k.result ≤ 3 = omega (arith, c.class_bits-k.ensures, (known-sized c.args.size.0 refl c.requires).few) in few-2)), (known-sized c.args.size.0 refl c.requires).narrow)

pub returns : goal.returns
returns c =
    let k = class_bits c.args.size.0 in
    ap₂ (λ (x y : ℕ). x - 1 + y + c.span_in.result) (c.power.ensures ∙ ap (λ (x : ℕ). 2 ^ x) c.class_bits-k.ensures) c.class_bits-k.ensures
    ∙ ap (λ (x : ℕ). 2 ^ k - 1 + k + x) c.span_in.ensures
