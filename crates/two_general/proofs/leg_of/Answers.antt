-- `two_general::leg_of` meets its contract. Assumes nothing.
use Rattle.std.proofs.Common.{◌∙◌, sym, ap, arith, length}
use Rattle.two_general.specs.Draft.{who_of}
use Rattle.two_general.specs.TakenLeg.{over_row, over_leg}
use Rattle.two_general.proofs.leg_of.Goals as goal

pub row-path-requires : goal.row-path-requires
row-path-requires c = let q = over_row c.in-Some.is c.requires.2.state in (q.0, q.1)

pub slice_bounds-result-count : goal.slice_bounds-result-count
slice_bounds-result-count c = omega (arith, (over_row c.in-Some.is c.requires.2.state).2, ap length c.row-path.ensures)

pub returns-in-Some : goal.returns-in-Some
returns-in-Some c = λ m s0 p0 k leave blocks lt s l.
    let mine = sym c.if-taken-j.true in
    rw c.row-path.ensures (over_leg c.in-Some.is s _ leave _ mine (l.taken (mine ∙ sym (ap who_of c.in-Some.is))) (omega (arith, (over_row c.in-Some.is s).2)))
