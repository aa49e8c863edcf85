use Rattle.std.proofs.Common.{refl, arith}
use Rattle.sheet_put.specs.Putting.{laying_starts, laying_room, laying_more}
use Rattle.sheet_put.proofs.put_paths.Goals as goal

pub loop-i-init : goal.loop-i-init
loop-i-init c = laying_starts c.requires.0 c.requires.1

pub put_path-requires : goal.put_path-requires
put_path-requires c = let room = laying_room c.loop-i.invariant c.loop-i-test.true in (room.0, room.1)

pub overflow_mul-to : goal.overflow_mul-to
overflow_mul-to c = omega (arith, (laying_room c.loop-i.invariant c.loop-i-test.true).3)

pub overflow_add-to : goal.overflow_add-to
overflow_add-to c = omega (arith, laying_room c.loop-i.invariant c.loop-i-test.true, c.head_bytes-head.ensures)

pub overflow_add-to-in-loop-i : goal.overflow_add-to-in-loop-i
overflow_add-to-in-loop-i c = omega (arith, (laying_room c.loop-i.invariant c.loop-i-test.true).1, c.head_bytes-head.ensures)

pub loop-i-preserved : goal.loop-i-preserved
loop-i-preserved c = laying_more c.loop-i.invariant c.loop-i-test.true c.head_bytes-head.ensures refl c.zone_of.ensures c.put_path.ensures
