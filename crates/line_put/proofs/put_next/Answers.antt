-- `line_put::put_next` meets its contract: a space, then the digits. Assumes nothing.
use Rattle.line_put.specs.Writes.{next-room, next-put}
use Rattle.line_put.proofs.put_next.Goals as goal

pub bounds-out-at : goal.bounds-out-at
bounds-out-at c = (next-room c.args.out.now c.args.at c.args.n c.requires).0

pub put-requires : goal.put-requires
put-requires c = (next-room c.args.out.now c.args.at c.args.n c.requires).1

pub returns : goal.returns
returns c = next-put c.args.out.now c.args.at c.args.n c.put.ensures
