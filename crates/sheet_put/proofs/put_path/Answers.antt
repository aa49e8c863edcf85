-- `sheet_put::put_path` meets its contract: its hops, its zone, then its relays. Assumes nothing.
use Rattle.sheet_put.specs.Putting.{path-put}
use Rattle.sheet_put.proofs.put_path.Goals as goal

pub returns : goal.returns
returns c =
    let a = c.args in
    path-put a.version a.zone a.places.now a.from a.h a.at a.out.now c.head_bytes.ensures c.put.ensures c.put_zone.ensures c.put_relays.ensures
