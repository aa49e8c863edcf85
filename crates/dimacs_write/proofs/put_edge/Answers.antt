-- `dimacs_write::put_edge` meets its contract: a byte, then two numbers and a line end. Assumes nothing.
use Rattle.std.proofs.Common.{arith}
use Rattle.dimacs_write.specs.Writes.{edge_room, edge_put}
use Rattle.dimacs_write.proofs.put_edge.Goals as goal

pub bounds-out-at : goal.bounds-out-at
bounds-out-at c = (edge_room c.args.out.now c.args.at c.args.a c.args.b c.requires).0

pub overflow_add-at : goal.overflow_add-at
overflow_add-at c = omega (arith, (edge_room c.args.out.now c.args.at c.args.a c.args.b c.requires).0)

pub put_line-requires : goal.put_line-requires
put_line-requires c = (edge_room c.args.out.now c.args.at c.args.a c.args.b c.requires).1

pub returns : goal.returns
returns c = edge_put c.args.out.now c.args.at c.args.a c.args.b c.put_line.ensures
