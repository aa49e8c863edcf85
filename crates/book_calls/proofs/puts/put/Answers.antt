-- `book_calls::puts::put` meets its contract: behind the last one, or behind the live ones once the book is closed up. Assumes nothing.
use Rattle.book_calls.specs.Puts.{all_but, all_closed, ok_err, err_same}
use Rattle.book_calls.proofs.puts.put.Goals as goal

pub returns-in-Ok : goal.returns-in-Ok
returns-in-Ok c = let a = c.args in all_but a.book a.bytes.now a.index.now a.sheet.now c.put_last.ensures (cc) (λ e. ok_err e)

pub returns-in-NoRoom : goal.returns-in-NoRoom
returns-in-NoRoom c = let a = c.args in all_closed a.book a.bytes.now a.index.now a.sheet.now c.put_last.ensures (cc) c.put_closed.ensures

pub returns-in_default : goal.returns-in_default
returns-in_default c = let a = c.args in all_but a.book a.bytes.now a.index.now a.sheet.now c.put_last.ensures (cc) (λ e. c.in_default.not-NoRoom (err_same e))
