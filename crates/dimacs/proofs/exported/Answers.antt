-- `dimacs::exported` meets its contract: 1 and 52, then 46. Assumes nothing.
use Rattle.std.proofs.Common.{arith, sym, ◌∙◌}
use Rattle.mesh.specs.Laws.{planned-known}
use Rattle.dimacs.specs.Needs.{export_unserved, export_large, export_small}
use Rattle.dimacs.proofs.exported.Goals as goal

pub unplanned-requires : goal.unplanned-requires
unplanned-requires c = sym c.planned.ensures ∙ c.if-not-planned.true

pub returns-then-not-planned : goal.returns-then-not-planned
returns-then-not-planned c = export_unserved _ _ c.unplanned.ensures

pub relays_in-requires : goal.relays_in-requires
relays_in-requires c = planned-known _ _ (sym c.planned.ensures ∙ c.if-not-planned.false)

pub returns-then-relays_in-gt-MOST_RELAYS : goal.returns-then-relays_in-gt-MOST_RELAYS
returns-then-relays_in-gt-MOST_RELAYS c = export_large _ _ c.planned.ensures c.if-not-planned.false c.relays_in.ensures (omega (arith, c.if-relays_in-gt-MOST_RELAYS.true))

pub returns : goal.returns
returns c = export_small _ _ c.planned.ensures c.if-not-planned.false c.relays_in.ensures (omega (arith, c.if-relays_in-gt-MOST_RELAYS.false))
