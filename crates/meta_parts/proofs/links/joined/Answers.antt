-- `meta_parts::links::joined` meets its contract. Assumes nothing.
use Rattle.std.proofs.Common.{refl, sym, ap, ◌∙◌, arith}
use lib.Count.{ones}
use Rattle.bits.specs.Laws.{ones-zero}
use Rattle.meta_parts.specs.Meta.{class_bits, part_bits}
use Rattle.meta_parts.specs.Sizes.{known-sized}
use Rattle.meta_parts.proofs.NearLaws.{linked-bit, linked-not, lowest_flip, one-not}
use Rattle.meta_parts.proofs.links.joined.Goals as goal

pub lowest-requires : goal.lowest-requires
lowest-requires c = λ e. omega (arith, c.if-u-v-eq1.true, ap ones e, ones-zero)

pub opens-requires : goal.opens-requires
opens-requires c = c.requires

pub returns-then-u-v-eq1 : goal.returns-then-u-v-eq1
returns-then-u-v-eq1 c =
    let a = c.args in
    let n = a.size.0 in
    c.opens.ensures
    ∙ sym (linked-bit (class_bits n) (part_bits n) (known-sized n refl c.requires).some a.u a.v c.lowest.result
    (lowest_flip a.u a.v c.lowest.result c.ranges.u.fits c.ranges.v.fits c.if-u-v-eq1.true c.lowest.ensures))

pub returns : goal.returns
returns c =
    let a = c.args in
    let n = a.size.0 in
    sym (linked-not (class_bits n) (part_bits n) (known-sized n refl c.requires).some a.u a.v (one-not a.u a.v c.if-u-v-eq1.false))
