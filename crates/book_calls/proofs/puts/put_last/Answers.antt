-- `book_calls::puts::put_last` meets its contract: each return is a case of the definition. Assumes nothing.
use Rattle.std.proofs.Common.{ℕ, ◌+◌, ◌*◌, sym, ap, ◌∙◌, arith}
use Rattle.book.specs.Sheets.{accepted}
use Rattle.book_keys.specs.Cases.{key_small, count-lent}
use Rattle.book_calls.specs.Cases.{short_fits, full-room, code_spot, code_stands, code_place, put-there, put_full, put-short, put_done}
use Rattle.book_calls.proofs.puts.put_last.Goals as goal

pub overflow_mul-key : goal.overflow_mul-key
overflow_mul-key c = let a = c.args in omega (arith, key_small (accepted a.sheet.now c.requires.0).keyed c.requires.1)

pub place-i-requires : goal.place-i-requires
place-i-requires c = let a = c.args in count-lent a.book a.index.now c.count-n.ensures

pub there-stands-requires : goal.there-stands-requires
there-stands-requires c = let a = c.args in count-lent a.book a.index.now c.count-n.ensures

pub returns-then-stands : goal.returns-then-stands
returns-then-stands c = let a = c.args in put-there a.book a.bytes.now a.index.now a.sheet.now c.requires.0 (code_stands a.book a.index.now a.sheet.now a.key c.requires.1 c.count-n.ensures c.place-i.ensures c.there-stands.ensures c.if-stands.true)

pub returns-then-filled : goal.returns-then-filled
returns-then-filled c = let a = c.args in put_full a.book a.bytes.now a.index.now a.sheet.now c.requires.0 (code_stands a.book a.index.now a.sheet.now a.key c.requires.1 c.count-n.ensures c.place-i.ensures c.there-stands.ensures (cc)) (sym c.full-filled.ensures ∙ c.if-filled.true)

pub returns-then-lacking : goal.returns-then-lacking
returns-then-lacking c = let a = c.args in put-short a.book a.bytes.now a.index.now a.sheet.now c.requires.0 (code_stands a.book a.index.now a.sheet.now a.key c.requires.1 c.count-n.ensures c.place-i.ensures c.there-stands.ensures c.if-stands.false) (sym c.full-filled.ensures ∙ c.if-filled.false) (sym c.short-lacking.ensures ∙ c.if-lacking.true)

pub overflow_mul-key-2 : goal.overflow_mul-key-2
overflow_mul-key-2 c = let a = c.args in omega (arith, key_small (accepted a.sheet.now c.requires.0).keyed c.requires.1)

pub overflow_add-key : goal.overflow_add-key
overflow_add-key c = let a = c.args in omega (arith, key_small (accepted a.sheet.now c.requires.0).keyed c.requires.1, (short_fits a.book a.bytes.now a.sheet.now (sym c.short-lacking.ensures ∙ c.if-lacking.false)).0)

pub insert-requires : goal.insert-requires
insert-requires c = let a = c.args in (code_place a.book a.index.now a.sheet.now a.key c.requires.1 c.count-n.ensures c.place-i.ensures, omega (arith, c.count-n.ensures, full-room a.book a.bytes.now a.index.now a.sheet.now (sym c.full-filled.ensures ∙ c.if-filled.false)))

pub copy-requires : goal.copy-requires
copy-requires c = let a = c.args in (short_fits a.book a.bytes.now a.sheet.now (sym c.short-lacking.ensures ∙ c.if-lacking.false)).1

pub overflow_add-result : goal.overflow_add-result
overflow_add-result c = let a = c.args in omega (arith, (short_fits a.book a.bytes.now a.sheet.now (sym c.short-lacking.ensures ∙ c.if-lacking.false)).0)

pub overflow_add-result-2 : goal.overflow_add-result-2
overflow_add-result-2 c = let a = c.args in omega (arith, count-lent a.book a.index.now c.count-n.ensures)

pub returns : goal.returns
returns c = let a = c.args in put_done a.book a.bytes.now a.index.now a.sheet.now c.requires.0 (code_stands a.book a.index.now a.sheet.now a.key c.requires.1 c.count-n.ensures c.place-i.ensures c.there-stands.ensures c.if-stands.false) (sym c.full-filled.ensures ∙ c.if-filled.false) (sym c.short-lacking.ensures ∙ c.if-lacking.false) c.count-n.ensures (code_spot a.book a.index.now a.sheet.now a.key c.requires.1 c.count-n.ensures c.place-i.ensures) (ap (λ (k : ℕ). k * 65536 + a.book.used) c.requires.1) c.copy.ensures c.insert.ensures
