-- `around_search::levels::start` meets its contract. Assumes nothing.
use Rattle.std.proofs.Common.{arith}
use Rattle.around_search.specs.Search.{starts}
use Rattle.around_search.proofs.levels.start.Goals as goal

pub clear-requires : goal.clear-requires
clear-requires c = c.requires.enough

pub enter-requires : goal.enter-requires
enter-requires c =
    let k = c.clear.ensures.long in
    (omega (arith, c.requires.relay, c.requires.enough, k), omega (arith, c.requires.relay, c.requires.small), omega arith, omega (arith, c.requires.relay, c.requires.enough, k))

pub returns : goal.returns
returns c = λ kind n links. starts c.requires c.clear.ensures c.enter.ensures
