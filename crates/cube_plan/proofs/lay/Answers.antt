-- `cube_plan::lay` meets its contract: 8 where there is no room, and otherwise what `cube_plan` gives. Assumes nothing.
use Rattle.std.proofs.Common.{refl, sym, ◌∙◌, arith}
use Rattle.cube_plan.specs.Laying.{short_is, no_room, sought, laid_out}
use Rattle.cube_plan.proofs.lay.Goals as goal

pub short-requires : goal.short-requires
short-requires c = (c.requires.size, omega (arith, c.requires.few, c.requires.size))

pub returns-then-short : goal.returns-then-short
returns-then-short c =
    let a = c.args in
    no_room _ _ _ _ _ _ (sym (short_is a.n _ a.targets.now a.places.now a.counts.now refl) ∙ sym c.short.ensures ∙ c.if-short.true)

pub fan_through-requires : goal.fan_through-requires
fan_through-requires c =
    sought _ _ _ _ _ _ c.requires (sym (short_is c.args.n _ c.args.targets.now c.args.places.now c.args.counts.now refl) ∙ sym c.short.ensures ∙ c.if-short.false)

pub returns : goal.returns
returns c =
    laid_out _ _ _ _ _ _ c.requires (sym (short_is c.args.n _ c.args.targets.now c.args.places.now c.args.counts.now refl) ∙ sym c.short.ensures ∙ c.if-short.false)
    _ _ c.fan_through.ensures c.fan_through.auto.places c.fan_through.auto.counts
