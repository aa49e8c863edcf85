-- `dimacs_write::write` meets its contract: what stands against it, then room, then the text. Assumes nothing.
use Rattle.std.proofs.Common.{sym}
use Rattle.dimacs.specs.Needs.{export_fine}
use Rattle.dimacs_write.specs.Writes.{write_left}
use Rattle.dimacs_write.proofs.write.Goals as goal

pub bytes-bytes-requires : goal.bytes-bytes-requires
bytes-bytes-requires c = export_fine _ _ (sym c.in_ok-exported.ensures)

pub put_graph-requires-clause-exported : goal.put_graph-requires-clause-exported
put_graph-requires-clause-exported c = export_fine _ _ (sym c.in_ok-exported.ensures)

pub returns-clause-out_after : goal.returns-clause-out_after
returns-clause-out_after c = write_left _ _ _ c.in_ok-exported.ensures c.bytes-bytes.ensures c.if-out-bytes.false c.put_graph.ensures
