-- `columns::pair` meets its contract: one order, then the other. Assumes nothing.
use Rattle.std.proofs.Common.{sym, ap₂, ◌∙◌, Bool, ◌&&◌, ◌||◌, eqb}
use Rattle.scan.specs.Laws.{first-true}
use Rattle.paths.specs.Whole.{pair}
use Rattle.columns.proofs.pair.Goals as goal

pub returns-then-eq : goal.returns-then-eq
unfolding pair
returns-then-eq c =
    let a = c.args in
    c.if-eq.true ∙ sym (first-true (eqb a.a a.u && eqb a.b a.v) (eqb a.a a.v && eqb a.b a.u) (sym c.eq.ensures ∙ c.if-eq.true))

pub returns-else-eq : goal.returns-else-eq
unfolding pair
returns-else-eq c = ap₂ (λ (x y : Bool). x || y) (sym c.if-eq.false ∙ c.eq.ensures) c.eq-else-eq.ensures
