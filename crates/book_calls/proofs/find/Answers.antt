-- `book_calls::find` meets its contract: what is sought. Assumes nothing.
use Rattle.std.proofs.Common.{ap, ◌∙◌, ◌≡◌, rules}
use Rattle.book.specs.Says.{find_says, find_by}
use Rattle.book_calls.proofs.find.Goals as goal

pub returns : goal.returns
unfolding find_says
returns c = let by : c.map.result ≡ find_by c.sought.result = search rules in by ∙ ap find_by c.sought.ensures
