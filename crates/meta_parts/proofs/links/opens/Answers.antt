-- `meta_parts::links::opens` meets its contract. Assumes nothing.
use Rattle.std.proofs.Common.{ℕ, ◌/◌, refl, sym, ap, ap₂, ◌∙◌, Bool, ◌||◌, rules, le-leb, arith, eqb, leb}
use borrow.Author.Tests.{lt-leb}
use Rattle.scan.specs.Laws.{first-true}
use Rattle.meta_parts.specs.Meta.{class_bits, part_bits, span, class_of}
use Rattle.meta_parts.specs.Sizes.{known-sized}
use Rattle.meta_parts.specs.Near.{opens}
use Rattle.meta_parts.proofs.links.opens.Goals as goal

pub span_in-requires : goal.span_in-requires
span_in-requires c = (known-sized c.args.size.0 refl c.requires).few

pub returns-then-span_in-j : goal.returns-then-span_in-j
unfolding opens
returns-then-span_in-j c =
    let a = c.args in
    let k = class_bits a.size.0 in
    let m = part_bits a.size.0 in
    sym (first-true (leb (span k m) a.j) (eqb (a.j / m) (class_of k m a.u)) (le-leb (span k m) a.j (omega (arith, c.span_in.ensures, c.if-span_in-j.true))))

pub class_of-requires : goal.class_of-requires
class_of-requires c = c.requires

pub returns : goal.returns
unfolding opens
returns c =
    let a = c.args in
    let k = class_bits a.size.0 in
    let m = part_bits a.size.0 in
    ap₂ (λ (x y : ℕ). eqb (a.j / x) y) c.part_bits.ensures c.class_of.ensures
    ∙ sym (ap (λ (b : Bool). b || eqb (a.j / m) (class_of k m a.u)) (lt-leb (span k m) a.j (omega (arith, c.span_in.ensures, c.if-span_in-j.false))))
