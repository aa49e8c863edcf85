-- `dimacs_take::line_at` meets its contract, by its first bytes. Assumes nothing.
use Rattle.std.proofs.Common.{arith}
use Rattle.dimacs_take.specs.Takes.{on_comment, on_link, on_counts, on_other, begun}
use Rattle.dimacs_take.proofs.line_at.Goals as goal

pub returns-in_err-next : goal.returns-in_err-next
returns-in_err-next c = rw c.from_residual.ensures (record { same = on_comment _ _ c.requires c.if-b-eq99.true c.in_err-next.ensures; within = omega arith })

pub returns-then-b-eq99 : goal.returns-then-b-eq99
returns-then-b-eq99 c =
    let taken = c.in_ok-next.ensures in
    record { same = on_comment _ _ c.requires c.if-b-eq99.true taken; within = (omega (arith, taken.within.0), taken.within.1) }

pub returns-in_err-u : goal.returns-in_err-u
returns-in_err-u c = rw c.from_residual-in_err-u.ensures (record { same = on_link _ _ c.requires c.if-b-eq99.false c.if-b-eq101.true c.in_err-u.ensures; within = omega arith })

pub returns-then-b-eq101 : goal.returns-then-b-eq101
returns-then-b-eq101 c =
    let taken = c.in_ok-u.ensures in
    record { same = on_link _ _ c.requires c.if-b-eq99.false c.if-b-eq101.true taken; within = (omega (arith, taken.within.0), taken.within.1) }

pub returns-in_err-n : goal.returns-in_err-n
returns-in_err-n c =
    rw c.from_residual-in_err-n.ensures (record {
      same = on_counts _ _ c.requires c.if-b-eq99.false c.if-b-eq101.false (begun _ _ c.requires c.starts_with.ensures.value c.if-starts_with.true) c.in_err-n.ensures;
      within = omega arith;
    })

pub returns-then-starts_with : goal.returns-then-starts_with
returns-then-starts_with c =
    let taken = c.in_ok-n.ensures in
    record {
      same = on_counts _ _ c.requires c.if-b-eq99.false c.if-b-eq101.false (begun _ _ c.requires c.starts_with.ensures.value c.if-starts_with.true) taken;
      within = (omega (arith, taken.within.0), taken.within.1);
    }

pub returns : goal.returns
returns c =
    record {
      same = on_other _ _ c.requires c.if-b-eq99.false c.if-b-eq101.false (begun _ _ c.requires c.starts_with.ensures.value c.if-starts_with.false);
      within = omega arith;
    }
