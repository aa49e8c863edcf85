-- Each entry of the tables is the length of a shortest path from relay 0 (`entry_shortest`), since they keep the rule (`passes`). No entry is above 4, 8 and 16,
-- and one is as high (`largest`). Assumes nothing.
use Rattle.std.specs.Prelude.{ℕ, ◌≤◌, ◌<◌, ◌≡◌, refl}
use Rattle.std.proofs.Common.{arith, pow_pos}
use Rattle.two_parts.specs.Two.{relays, two}
use Rattle.two_parts.proofs.NearLaws.{links}
use Rattle.two_distance.specs.Rule.{rule_shortest}
use Rattle.paths.specs.Ways.{Shortest}
use Rattle.two_distance.specs.Tables.{table3, table_of, entry, look}
use Rattle.two_distance.specs.Tested.{tested_top, tested_rule, top, passes}

module _ (m : ℕ) (low : 1 ≤ m) (high : m ≤ 3) where
  pub entry_shortest : (r : ℕ) → r < relays m → Shortest (two m) 0 r (entry m r)
  entry_shortest r h =
      let (long, passed) = passes m low high in
      rule_shortest (two m) (entry m) (tested_rule m (top m) (look m) (table_of m) long passed) (links m).both r (pow_pos _) h

  pub entry_top : (r : ℕ) → r < relays m → entry m r ≤ top m
  entry_top r h = let (long, passed) = passes m low high in tested_top m (top m) (look m) (table_of m) long passed r h

-- the largest entry of order 3 is 16
pub largest : ((r : ℕ) → r < relays 3 → entry 3 r ≤ 16) × (entry 3 2040 ≡ 16)
unfolding table3
largest = (entry_top 3 (omega arith) (omega arith), refl)
