-- `dimacs_write::put_graph` meets its contract: the first line, then all others. Assumes nothing.
use Rattle.dimacs_size.specs.Sizes.{rows_of}
use Rattle.dimacs_write.specs.Writes.{head-room, body-room, graph_put}
use Rattle.dimacs_write.proofs.put_graph.Goals as goal

pub relays_in-relays-requires : goal.relays_in-relays-requires
relays_in-relays-requires c = c.requires.exported.known

pub links_in-links-requires : goal.links_in-links-requires
links_in-links-requires c = c.requires.exported.known

pub put_head-p-requires : goal.put_head-p-requires
put_head-p-requires c = head-room (rows_of c.requires.exported c.relays_in-relays.ensures c.links_in-links.ensures) c.args.out.now c.requires.size_in_bounds

pub put_rows-requires : goal.put_rows-requires
put_rows-requires c =
    let r = rows_of c.requires.exported c.relays_in-relays.ensures c.links_in-links.ensures in
    record {
      rows = r;
      size_in_bounds = body-room r c.args.out.now c.requires.size_in_bounds c.put_head-p.ensures;
    }

pub returns : goal.returns
returns c =
    let r = rows_of c.requires.exported c.relays_in-relays.ensures c.links_in-links.ensures in
    graph_put r c.args.out.now c.requires.size_in_bounds c.put_head-p.ensures c.put_rows.ensures
