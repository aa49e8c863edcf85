use Rattle.std.proofs.Common.{sym, arith}
use Rattle.scan.specs.Laws.{passed_at, passed_all}
use Rattle.sheet_put.specs.Stray.{stray_at, zone_some}
use Rattle.sheet_put.proofs.first_zone.Goals as goal

pub returns-then-zone_of-ne0 : goal.returns-then-zone_of-ne0
unfolding stray_at
returns-then-zone_of-ne0 c = sym (passed_at c.loop-i.invariant (omega arith) (zone_some c.args.zones.now c.loop-i.i c.zone_of.ensures c.if-zone_of-ne0.true))

pub returns : goal.returns
unfolding stray_at
returns c = sym (passed_all c.loop-i.invariant (omega arith))
