-- The table is that of the order. Assumes nothing.
use Rattle.std.proofs.Common.{ℕ, ◌≡◌, ◌∙◌, sym, ap, arith}
use Rattle.two_distance.specs.Tables.{table1, table2, table3, entry}
use Rattle.two_distance.proofs.from_zero.Goals as goal

pub returns-in-1 : goal.returns-in-1
unfolding table1
returns-in-1 c = c.from.ensures ∙ ap (λ (m : ℕ). entry m c.args.relay) (sym c.in-1.is)

pub returns-in-2 : goal.returns-in-2
unfolding table2
returns-in-2 c = c.from-in-2.ensures ∙ ap (λ (m : ℕ). entry m c.args.relay) (sym c.in-2.is)

pub returns-in_default : goal.returns-in_default
unfolding table3
returns-in_default c =
    let third : c.args.order.0 ≡ 3 = omega (arith, c.requires) in
    c.from-in_default.ensures ∙ ap (λ (m : ℕ). entry m c.args.relay) (sym third)
