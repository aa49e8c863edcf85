-- `book_calls::puts::put_closed` meets its contract. Assumes nothing.
use Rattle.std.proofs.Common.{sym, ◌∙◌}
use Rattle.book_calls.specs.Puts.{closed-crammed, closed-put}
use Rattle.book_calls.proofs.puts.put_closed.Goals as goal

pub returns-then-crammed : goal.returns-then-crammed
returns-then-crammed c = let a = c.args in closed-crammed a.book a.bytes.now a.index.now a.sheet.now (sym c.crammed.ensures ∙ c.if-crammed.true)

pub returns : goal.returns
returns c =
    let a = c.args in
    closed-put a.book a.bytes.now a.index.now a.sheet.now (sym c.crammed.ensures ∙ c.if-crammed.false) c.close-closed.ensures c.put_last.ensures
