-- `line_take::next_field` meets its contract, by the byte that stands next. Assumes nothing.
use Rattle.std.proofs.Common.{sym, ◌∙◌, arith}
use Rattle.line_take.specs.Reads.{field_past, field-ends, field_breaks, field-number, field_no_number}
use Rattle.line_take.proofs.next_field.Goals as goal

pub returns-in_err-get : goal.returns-in_err-get
returns-in_err-get c = rw c.from_residual.ensures (field_past _ _ (omega (arith, c.in_err-get.ensures.lookup)))

pub returns-in-10 : goal.returns-in-10
returns-in-10 c = let h = c.in_ok-get.ensures.lookup.3 in field-ends _ _ h.0 (sym (h.1 0) ∙ c.in-10.is)

pub returns-in_err-value-in-32 : goal.returns-in_err-value-in-32
returns-in_err-value-in-32 c =
    let h = c.in_ok-get.ensures.lookup.3 in
    rw c.from_residual-in_err-value-in-32.ensures (field_no_number _ _ h.0 (sym (h.1 0) ∙ c.in-32.is) c.read.ensures c.in_err-value-in-32.was)

pub returns-in_ok-value-in-32 : goal.returns-in_ok-value-in-32
returns-in_ok-value-in-32 c =
    let h = c.in_ok-get.ensures.lookup.3 in field-number _ _ h.0 (sym (h.1 0) ∙ c.in-32.is) c.read.ensures c.in_ok-value-in-32.was

pub returns-in_default : goal.returns-in_default
returns-in_default c =
    let h = c.in_ok-get.ensures.lookup.3 in
    let same = h.1 0 in
    field_breaks _ _ h.0 (λ e. omega (arith, same)) (λ e. omega (arith, same))
