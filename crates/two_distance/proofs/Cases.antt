-- Pairs of orders 2 and 3, both ways and by way of a third relay (`both_ways`), from the tables. Assumes nothing.
use Rattle.std.specs.Prelude.{refl}
use Rattle.std.proofs.Common.{◌∙◌, arith}
use Rattle.bits.specs.Bit.{bit}
use Rattle.two_parts.specs.Seen.{gather, shuffled, seen_block, seen_slot, seen}
use Rattle.two_distance.specs.Tables.{table2, table3}
use Rattle.two_distance.proofs.Moved.{distance-entry}
use Rattle.two_distance.specs.Cases.{BothWays}

pub both_ways : BothWays
unfolding table2 table3 seen seen_block seen_slot shuffled gather bit
both_ways = (
  distance-entry 2 0 23 (omega arith) (omega arith) (omega arith) (omega arith) ∙ refl,
  distance-entry 2 23 0 (omega arith) (omega arith) (omega arith) (omega arith) ∙ refl,
  distance-entry 2 0 6 (omega arith) (omega arith) (omega arith) (omega arith) ∙ refl,
  distance-entry 2 6 23 (omega arith) (omega arith) (omega arith) (omega arith) ∙ refl,
  distance-entry 3 0 2040 (omega arith) (omega arith) (omega arith) (omega arith) ∙ refl,
  distance-entry 3 2040 0 (omega arith) (omega arith) (omega arith) (omega arith) ∙ refl,
)
