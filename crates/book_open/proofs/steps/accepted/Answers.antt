-- `book_open::steps::accepted` meets its contract: what the check says. Assumes nothing.
use Rattle.std.proofs.Common.{◌∙◌, take}
use Rattle.book_open.specs.Pieces.{fine_is}
use Rattle.book_open.proofs.steps.accepted.Goals as goal

pub returns : goal.returns
returns c = let a = c.args in c.is_ok.ensures.value ∙ fine_is (take a.n a.rest.now) c.check_either.result c.check_either.ensures.told
