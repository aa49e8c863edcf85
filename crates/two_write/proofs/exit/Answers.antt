-- `two_write::exit` meets its contract. Assumes nothing.
use Rattle.std.proofs.Common.{arith, refl}
use Rattle.two_write.specs.Blocks.{exit_door, next_differs}
use Rattle.two_write.proofs.exit.Goals as goal

pub lowest-requires : goal.lowest-requires
lowest-requires c = next_differs c.requires.1.5 c.args.i _ _ (omega arith) refl refl

pub returns : goal.returns
returns c = λ m s0 leave at size way. rw c.from.ensures (exit_door way c.args.i _ _ _ (omega arith) refl refl c.lowest.ensures)
