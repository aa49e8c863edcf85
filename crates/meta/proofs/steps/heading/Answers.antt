-- `meta::steps::heading` meets its contract. Assumes nothing.
use Rattle.std.proofs.Common.{ℕ, ◌%◌, ◌^◌, ◌<◌, ◌≡◌, sym, ap, ap₂, ◌∙◌, subst, arith, bit_xor}
use Rattle.meta_parts.specs.Meta.{class_bits, part_bits, class_of, parts_of}
use Rattle.meta_parts.specs.Sizes.{span-few}
use Rattle.meta_parts.specs.Parts.{class_below}
use Rattle.meta_parts.specs.Needs.{fine-sized}
use Rattle.meta.specs.Cycle.{after}
use Rattle.meta.proofs.Turns.{heading_done, heading-on}
use Rattle.meta.proofs.steps.heading.Goals as goal

pub span_in-span-requires : goal.span_in-span-requires
span_in-span-requires c = (fine-sized c.requires).few

pub overflow_cast-span : goal.overflow_cast-span
overflow_cast-span c = omega (arith, c.span_in-span.ensures, span-few (fine-sized c.requires))

pub power-requires : goal.power-requires
power-requires c = omega (arith, c.span_in-span.ensures, span-few (fine-sized c.requires))

pub class_of-requires : goal.class_of-requires
class_of-requires c = c.requires.size

pub returns-then-u-t-eq0 : goal.returns-then-u-t-eq0
unfolding parts_of part_bits
returns-then-u-t-eq0 c =
    let a = c.args in
    let k = class_bits a.size.0 in
    let m = part_bits a.size.0 in
    c.class_of.ensures
    ∙ sym (heading_done k m (class_of k m a.u) (class_of k m a.t) (bit_xor a.u a.t) (sym ((let parts : let a = c.args in bit_xor a.u a.t % c.power.result ≡ parts_of (class_bits a.size.0) (part_bits a.size.0) (bit_xor a.u a.t) = let a = c.args in ap (λ (x : ℕ). bit_xor a.u a.t % x) (c.power.ensures ∙ ap (λ (n : ℕ). 2 ^ n) c.span_in-span.ensures) in parts)) ∙ c.if-u-t-eq0.true))

pub class_of-requires-2 : goal.class_of-requires-2
class_of-requires-2 c = c.requires.size

pub after-requires : goal.after-requires
after-requires c =
    let k = class_bits c.args.size.0 in
    let m = part_bits c.args.size.0 in
    record {
      few = omega (arith, c.class_bits.ensures, (fine-sized c.requires).few);
      below = subst (λ (n : ℕ). c.class_of-2.result < 2 ^ n) (sym c.class_bits.ensures)
          (subst (λ (n : ℕ). n < 2 ^ k) (sym c.class_of-2.ensures) (class_below k m c.args.u c.requires.source));
    }

pub returns : goal.returns
unfolding parts_of part_bits
returns c =
    let a = c.args in
    let k = class_bits a.size.0 in
    let m = part_bits a.size.0 in
    c.after.ensures ∙ ap₂ after c.class_bits.ensures c.class_of-2.ensures
    ∙ sym (heading-on k m (class_of k m a.u) (class_of k m a.t) (bit_xor a.u a.t) (λ z. omega (arith, (let parts : let a = c.args in bit_xor a.u a.t % c.power.result ≡ parts_of (class_bits a.size.0) (part_bits a.size.0) (bit_xor a.u a.t) = let a = c.args in ap (λ (x : ℕ). bit_xor a.u a.t % x) (c.power.ensures ∙ ap (λ (n : ℕ). 2 ^ n) c.span_in-span.ensures) in parts) ∙ z)))
