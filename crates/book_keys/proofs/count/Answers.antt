-- `book_keys::count` meets its contract. Assumes nothing.
use Rattle.std.proofs.Common.{arith}
use Rattle.book.specs.Says.{count, capacity}
use Rattle.book_keys.proofs.count.Goals as goal

pub returns : goal.returns
unfolding count capacity
returns c = omega arith
