-- `meta_parts::links::near` meets its contract. Assumes nothing.
use Rattle.std.proofs.Common.{ℕ, ◌+◌, ◌-◌, ◌*◌, ◌<◌, ◌≡◌, sym, ap, ap₂, ◌∙◌, arith}
use Rattle.bits.specs.Bit.{flip}
use Rattle.meta_parts.specs.Meta.{class_bits, part_bits, class_of}
use Rattle.meta_parts.specs.Sizes.{span-few}
use Rattle.meta_parts.specs.Parts.{class_below, bit_within}
use Rattle.meta_parts.proofs.NearLaws.{near-part, near_class}
use Rattle.meta_parts.specs.Needs.{fine-sized}
use Rattle.meta_parts.proofs.links.near.Goals as goal

pub class_of-requires : goal.class_of-requires
class_of-requires c = c.requires.fine.size

pub overflow_mul-m : goal.overflow_mul-m
overflow_mul-m c = omega (
  arith,
  (let bit-few-2 : let a = c.args in c.part_bits-m.result * c.class_of.result + a.i < 37 = let n = c.args.size.0 in
      let z = fine-sized c.requires.fine in
      omega (
        arith,
        (let bit_is : let a = c.args in c.part_bits-m.result * c.class_of.result + a.i ≡ part_bits a.size.0 * class_of (class_bits a.size.0) (part_bits a.size.0) a.u + a.i = let a = c.args in ap₂ (λ (x y : ℕ). x * y + a.i) c.part_bits-m.ensures c.class_of.ensures in bit_is),
        bit_within (class_bits n) (part_bits n) (class_of (class_bits n) (part_bits n) c.args.u) c.args.i (class_below (class_bits n) (part_bits n) c.args.u c.requires.fine.source)
            (omega (arith, c.if-i-m.true, c.part_bits-m.ensures)),
        span-few z,
      ) in bit-few-2),
)

pub overflow_add-m : goal.overflow_add-m
overflow_add-m c = omega (
  arith,
  (let bit-few-2 : let a = c.args in c.part_bits-m.result * c.class_of.result + a.i < 37 = let n = c.args.size.0 in
      let z = fine-sized c.requires.fine in
      omega (
        arith,
        (let bit_is : let a = c.args in c.part_bits-m.result * c.class_of.result + a.i ≡ part_bits a.size.0 * class_of (class_bits a.size.0) (part_bits a.size.0) a.u + a.i = let a = c.args in ap₂ (λ (x y : ℕ). x * y + a.i) c.part_bits-m.ensures c.class_of.ensures in bit_is),
        bit_within (class_bits n) (part_bits n) (class_of (class_bits n) (part_bits n) c.args.u) c.args.i (class_below (class_bits n) (part_bits n) c.args.u c.requires.fine.source)
            (omega (arith, c.if-i-m.true, c.part_bits-m.ensures)),
        span-few z,
      ) in bit-few-2),
)

pub overflow_cast-m : goal.overflow_cast-m
overflow_cast-m c = omega (
  arith,
  (let bit-few-2 : let a = c.args in c.part_bits-m.result * c.class_of.result + a.i < 37 = let n = c.args.size.0 in
      let z = fine-sized c.requires.fine in
      omega (
        arith,
        (let bit_is : let a = c.args in c.part_bits-m.result * c.class_of.result + a.i ≡ part_bits a.size.0 * class_of (class_bits a.size.0) (part_bits a.size.0) a.u + a.i = let a = c.args in ap₂ (λ (x y : ℕ). x * y + a.i) c.part_bits-m.ensures c.class_of.ensures in bit_is),
        bit_within (class_bits n) (part_bits n) (class_of (class_bits n) (part_bits n) c.args.u) c.args.i (class_below (class_bits n) (part_bits n) c.args.u c.requires.fine.source)
            (omega (arith, c.if-i-m.true, c.part_bits-m.ensures)),
        span-few z,
      ) in bit-few-2),
)

pub flip-requires : goal.flip-requires
flip-requires c = omega (
  arith,
  (let bit-few-2 : let a = c.args in c.part_bits-m.result * c.class_of.result + a.i < 37 = let n = c.args.size.0 in
      let z = fine-sized c.requires.fine in
      omega (
        arith,
        (let bit_is : let a = c.args in c.part_bits-m.result * c.class_of.result + a.i ≡ part_bits a.size.0 * class_of (class_bits a.size.0) (part_bits a.size.0) a.u + a.i = let a = c.args in ap₂ (λ (x y : ℕ). x * y + a.i) c.part_bits-m.ensures c.class_of.ensures in bit_is),
        bit_within (class_bits n) (part_bits n) (class_of (class_bits n) (part_bits n) c.args.u) c.args.i (class_below (class_bits n) (part_bits n) c.args.u c.requires.fine.source)
            (omega (arith, c.if-i-m.true, c.part_bits-m.ensures)),
        span-few z,
      ) in bit-few-2),
)

pub returns-then-i-m : goal.returns-then-i-m
returns-then-i-m c =
    let n = c.args.size.0 in
    c.flip.ensures ∙ ap (flip c.args.u) ((let bit_is : let a = c.args in c.part_bits-m.result * c.class_of.result + a.i ≡ part_bits a.size.0 * class_of (class_bits a.size.0) (part_bits a.size.0) a.u + a.i = let a = c.args in ap₂ (λ (x y : ℕ). x * y + a.i) c.part_bits-m.ensures c.class_of.ensures in bit_is))
    ∙ sym (near-part (class_bits n) (part_bits n) (fine-sized c.requires.fine).some c.args.u c.args.i (omega (arith, c.if-i-m.true, c.part_bits-m.ensures)))

pub span_in-requires : goal.span_in-requires
span_in-requires c = (fine-sized c.requires.fine).few

pub overflow_add-span_in : goal.overflow_add-span_in
overflow_add-span_in c = omega (arith, (let top-few : c.span_in.result + (c.args.i - c.part_bits-m.result) < 37 = omega (arith, c.span_in.ensures, c.part_bits-m.ensures, c.if-i-m.false, c.requires.i_bound, (fine-sized c.requires.fine).narrow) in top-few))

pub overflow_cast-span_in : goal.overflow_cast-span_in
overflow_cast-span_in c = omega (arith, (let top-few : c.span_in.result + (c.args.i - c.part_bits-m.result) < 37 = omega (arith, c.span_in.ensures, c.part_bits-m.ensures, c.if-i-m.false, c.requires.i_bound, (fine-sized c.requires.fine).narrow) in top-few))

pub flip-requires-2 : goal.flip-requires-2
flip-requires-2 c = omega (arith, (let top-few : c.span_in.result + (c.args.i - c.part_bits-m.result) < 37 = omega (arith, c.span_in.ensures, c.part_bits-m.ensures, c.if-i-m.false, c.requires.i_bound, (fine-sized c.requires.fine).narrow) in top-few))

pub returns : goal.returns
returns c =
    let n = c.args.size.0 in
    c.flip-2.ensures
    ∙ ap₂ (λ (x y : ℕ). flip c.args.u (x + (c.args.i - y))) c.span_in.ensures c.part_bits-m.ensures
    ∙ sym (near_class (class_bits n) (part_bits n) (fine-sized c.requires.fine).some c.args.u c.args.i (omega (arith, c.if-i-m.false, c.part_bits-m.ensures)))
