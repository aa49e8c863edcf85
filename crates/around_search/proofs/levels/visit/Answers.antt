use Rattle.std.proofs.Common.{refl, sym, ◌∙◌, inl, inr, arith}
use Rattle.around_search.proofs.levels.visit.Goals as goal

pub label-requires : goal.label-requires
label-requires c = c.requires.relay

pub enter-requires : goal.enter-requires
enter-requires c =
    (c.requires.relay, c.requires.narrow, c.requires.labelled, c.requires.room_for (sym c.label.ensures ∙ c.if-label-eq0.true))

pub overflow_add-result : goal.overflow_add-result
overflow_add-result c = omega (arith, c.requires.room_for (sym c.label.ensures ∙ c.if-label-eq0.true), c.well_formed)

pub returns-then-label-eq0 : goal.returns-then-label-eq0
returns-then-label-eq0 c = inl (sym c.label.ensures ∙ c.if-label-eq0.true, c.enter.ensures, refl)

pub returns : goal.returns
returns c = inr (omega (arith, c.label.ensures, c.if-label-eq0.false), refl, refl)
