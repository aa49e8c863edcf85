-- `sheet_write::lay_sheet` meets its contract: where it fits, the head and then the paths. Assumes nothing.
use Rattle.std.proofs.Common.{arith}
use Rattle.sheet_write.specs.PutSheet.{put_small, put_refused, put_done}
use Rattle.sheet_write.proofs.lay_sheet.Goals as goal

pub overflow_add-n : goal.overflow_add-n
overflow_add-n c = let a = c.args in let h = a.head in omega (arith, put_small a.version a.zones.now h.mesh.kind h.mesh.size h.source h.paths a.places.now a.counts.now a.out.now c.requires.0, c.bytes_of-n.ensures)

pub returns-then-out-n : goal.returns-then-out-n
returns-then-out-n c = let a = c.args in let h = a.head in put_refused a.version a.zones.now h.mesh.kind h.mesh.size h.source h.paths a.places.now a.counts.now a.out.now c.requires.0 c.bytes_of-n.ensures c.if-out-n.true

pub put_head-requires : goal.put_head-requires
put_head-requires c = let a = c.args in let h = a.head in (omega (arith, c.if-out-n.false), omega (arith, put_small a.version a.zones.now h.mesh.kind h.mesh.size h.source h.paths a.places.now a.counts.now a.out.now c.requires.0, c.bytes_of-n.ensures))

pub returns : goal.returns
returns c = let a = c.args in let h = a.head in put_done a.version a.zones.now h.mesh.kind h.mesh.size h.source h.paths a.places.now a.counts.now a.out.now c.requires.0 c.bytes_of-n.ensures c.requires.1 c.if-out-n.false c.places_in-w.ensures c.put_head.ensures c.put_paths.ensures
