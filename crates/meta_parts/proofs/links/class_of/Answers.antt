-- `meta_parts::links::class_of` meets its contract. Assumes nothing.
use Rattle.std.proofs.Common.{ℕ, ◌/◌, ◌^◌, refl, ap, arith}
use Rattle.meta_parts.specs.Meta.{class_of}
use Rattle.meta_parts.specs.Sizes.{known-sized, span-few}
use Rattle.meta_parts.proofs.links.class_of.Goals as goal

pub span_in-requires : goal.span_in-requires
span_in-requires c = (known-sized c.args.size.0 refl c.requires).few

pub overflow_shr-result : goal.overflow_shr-result
overflow_shr-result c = omega (arith, c.span_in.ensures, span-few (known-sized c.args.size.0 refl c.requires))

pub returns : goal.returns
unfolding class_of
returns c = ap (λ (n : ℕ). c.args.u / 2 ^ n) c.span_in.ensures
