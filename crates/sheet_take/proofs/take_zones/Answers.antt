use Rattle.std.proofs.Common.{arith}
use Rattle.sheet_take.specs.Zoning.{zoning_starts, zoning_fine, zoning_room, zoning_more}
use Rattle.sheet_take.proofs.take_zones.Goals as goal

pub loop-i-init : goal.loop-i-init
loop-i-init c = zoning_starts c.requires

pub zone_at-requires : goal.zone_at-requires
zone_at-requires c = omega (arith, (zoning_fine c.loop-i.invariant c.loop-i-test.true).within)

pub number-requires : goal.number-requires
number-requires c = ((zoning_fine c.loop-i.invariant c.loop-i-test.true).begun, omega arith)

pub overflow_mul-at : goal.overflow_mul-at
overflow_mul-at c = omega (arith, (zoning_room c.loop-i.invariant c.loop-i-test.true).1, c.number.ensures)

pub overflow_add-at : goal.overflow_add-at
overflow_add-at c = omega (arith, (zoning_fine c.loop-i.invariant c.loop-i-test.true).within, c.head_bytes-head.ensures, c.number.ensures)

pub overflow_add-at-in-loop-i : goal.overflow_add-at-in-loop-i
overflow_add-at-in-loop-i c = omega (arith, (zoning_fine c.loop-i.invariant c.loop-i-test.true).within, c.head_bytes-head.ensures, c.number.ensures)

pub loop-i-preserved : goal.loop-i-preserved
loop-i-preserved c = zoning_more c.loop-i.invariant c.loop-i-test.true c.zone_at.ensures (omega (arith, c.head_bytes-head.ensures, c.number.ensures))
