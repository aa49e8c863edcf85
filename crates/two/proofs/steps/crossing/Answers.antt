-- `two::steps::crossing` meets its contract: the lowest bit of those in order stands at the place of the crossing. Assumes nothing.
use Rattle.std.proofs.Common.{ℕ, sym, ap, subst, ◌∙◌, arith}
use Rattle.bits.specs.Bit.{Lowest}
use Rattle.bits.specs.Gray.{gray}
use Rattle.two.specs.Next.{crossing}
use Rattle.two.specs.Ordered.{ordered}
use Rattle.two.proofs.Ordered.{ordered-some, ordered_lowest}
use Rattle.two.proofs.steps.crossing.Goals as goal

pub overflow_cast-first : goal.overflow_cast-first
overflow_cast-first c = omega (arith, c.first.ensures.upper_bound)

pub returns : goal.returns
unfolding crossing
returns c =
    let m = c.args.order.0 in
    let x = c.args.x in
    let i = c.first.result in
    λ ne.
    let some = ordered-some m x c.requires.order ne c.requires.below in
    let low : Lowest 64 (ordered x) i = subst (λ (y : ℕ). Lowest 64 y i) c.ordered.ensures (c.first.ensures.lowest (λ z. some (sym c.ordered.ensures ∙ z))) in
    c.gray.ensures ∙ ap gray (ordered_lowest m x c.requires.order ne c.requires.below 64 i low)
