-- `judge_rows::twinned` meets its contract: of a fan no path is a twin, of a bundle a bare link is one of every other. Assumes nothing.
use Rattle.std.proofs.Common.{sym, ◌∙◌}
use Rattle.judge_rows.specs.Laws.{twinned-fan, twinned-not, twinned_bare}
use Rattle.judge_rows.proofs.twinned.Goals as goal

pub returns-in-Fan : goal.returns-in-Fan
returns-in-Fan c = let a = c.args in twinned-fan a.rules a.counts.now a.i a.p c.in-Fan.is

pub returns-then-eq : goal.returns-then-eq
returns-then-eq c =
    let a = c.args in
    twinned_bare a.rules a.counts.now a.i a.p c.in-Bundle.is c.requires.1 (sym c.eq.ensures ∙ c.if-eq.true) c.among.ensures

pub returns-else-eq : goal.returns-else-eq
returns-else-eq c =
    let a = c.args in
    c.if-eq.false ∙ twinned-not a.rules a.counts.now a.i a.p c.in-Bundle.is c.requires.1 (sym c.eq.ensures ∙ c.if-eq.false)
