-- `arrivals::arrive` meets its contract: each return is a case of the rules, and that of a number ahead of the newest is found by `passed_ahead`. Assumes nothing.
use Rattle.std.proofs.Common.{ℕ, refl, sym, ap, ◌∙◌, arith}
use Rattle.bits.specs.Laws.{bit-on, bit_off}
use Rattle.arrivals.specs.Says.{kept, minus, Passed}
use Rattle.arrivals.specs.Laws.{arrival-first, arrival-seen, arrival-marked, arrival_old}
use Rattle.arrivals.proofs.arrive.Goals as goal

pub returns-then-marks-eq0 : goal.returns-then-marks-eq0
returns-then-marks-eq0 c = sym (arrival-first c.args.was c.args.number (omega arith))

pub returns-then-bit : goal.returns-then-bit
unfolding minus
returns-then-bit c =
    let a = c.args in
    sym (arrival-seen a.was a.number (λ z. omega arith) (omega arith) (omega arith) refl refl (omega arith) (bit-on _ a.was.marks (sym (rw c.from.ensures at c.bit.ensures) ∙ c.if-bit.true)))

pub returns-then-behind-lt64 : goal.returns-then-behind-lt64
unfolding minus
returns-then-behind-lt64 c =
    let a = c.args in
    ap (λ (m : ℕ). Passed (kept a.was.newest m)) (rw c.from-then-behind-lt64.ensures at c.flip.ensures)
    ∙ sym (arrival-marked a.was a.number (λ z. omega arith) (omega arith) (omega arith) refl refl (omega arith) (bit_off _ a.was.marks (sym (rw c.from.ensures at c.bit.ensures) ∙ c.if-bit.false)))

pub returns : goal.returns
unfolding minus
returns c =
    let a = c.args in
    sym (arrival_old a.was a.number (λ z. omega arith) (omega arith) (omega arith) refl refl (omega arith) (omega arith))
