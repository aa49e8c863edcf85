-- `marks::word` meets its contract. Assumes nothing.
use Rattle.std.proofs.Common.{refl, arith}
use Rattle.marks.specs.Marks.{word_at}
use Rattle.marks.proofs.word.Goals as goal

pub returns : goal.returns
unfolding word_at
returns c = (refl, omega arith)
