-- `book_calls::puts::full` meets its contract. Assumes nothing.
use Rattle.book_calls.specs.Cases.{full_is}
use Rattle.book_calls.proofs.puts.full.Goals as goal

pub returns : goal.returns
returns c = let a = c.args in full_is a.book a.index.now c.min.ensures c.count.ensures
