-- Assumes nothing.
use Rattle.std.proofs.Common.{ℕ, ◌+◌, ◌≤◌, ap₂, ◌∙◌, rules, arith, leb}
use Rattle.meta_parts.specs.Meta.{class_bits}
use Rattle.meta_parts.specs.Sizes.{many_classes, no_part, last-test, span_small}
use Rattle.meta_parts.proofs.sizes.MetacubeFacts.known.Goals as goal
use Rattle.meta_parts.proofs.sizes.MetacubeFacts.known.Goals.{Else-k-gt-MOST_CLASS_BITS}

-- past the first test there are few classes
few : (c : Else-k-gt-MOST_CLASS_BITS) → class_bits c.args.self.0 ≤ 3
few c = omega (arith, c.class_bits-k.ensures, c.if-k-gt-MOST_CLASS_BITS.false)

pub returns-then-k-gt-MOST_CLASS_BITS : goal.returns-then-k-gt-MOST_CLASS_BITS
returns-then-k-gt-MOST_CLASS_BITS c = many_classes c.args.self.0 (omega (arith, c.class_bits-k.ensures, c.if-k-gt-MOST_CLASS_BITS.true))

pub returns-then-part_bits-lt1 : goal.returns-then-part_bits-lt1
returns-then-part_bits-lt1 c = no_part c.args.self.0 (few (goal.at.returns-then-part_bits-lt1 c).Else-k-gt-MOST_CLASS_BITS) (omega (arith, c.part_bits.ensures, c.if-part_bits-lt1.true))

pub span_in-requires : goal.span_in-requires
span_in-requires c = few (goal.at.span_in-requires c).Else-k-gt-MOST_CLASS_BITS

pub overflow_add-result : goal.overflow_add-result
overflow_add-result c = omega (arith, c.class_bits-k.ensures, c.span_in.ensures, span_small c.args.self.0 (few (goal.at.overflow_add-result c).Else-k-gt-MOST_CLASS_BITS))

pub returns : goal.returns
returns c =
    ap₂ (λ (x y : ℕ). leb (x + y) 37) c.class_bits-k.ensures c.span_in.ensures
    ∙ last-test c.args.self.0 (few (goal.at.returns c).Else-k-gt-MOST_CLASS_BITS) (omega (arith, c.part_bits.ensures, c.if-part_bits-lt1.false))
