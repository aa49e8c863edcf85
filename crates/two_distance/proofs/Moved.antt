-- A pair is brought to relay 0 and looked up: the entry of the target as the source sees it is the distance (`distance-entry`), and the distance
-- is that of a shortest path (`distance_is`), for orders 1 to 3. Assumes nothing.
use Rattle.std.specs.Prelude.{ℕ, ◌≤◌, ◌<◌, ◌≡◌}
use Rattle.std.proofs.Math.Path.{sym}
use Rattle.std.proofs.Common.{subst, arith}
use Rattle.two_parts.specs.Two.{relays, two}
use Rattle.two_parts.specs.Seen.{seen}
use Rattle.two_parts.specs.Moves.{seen_below}
use Rattle.paths.specs.Ways.{Shortest, distance, shortest_distance}
use Rattle.two_distance.specs.Tables.{entry}
use Rattle.two_distance.proofs.Tested.{entry_shortest, entry_top}
use Rattle.two_distance.specs.Moved.{moved_shortest, top_below}

module _ (m s t : ℕ) (low : 1 ≤ m) (high : m ≤ 3) (hs : s < relays m) (ht : t < relays m) where
  pub seen_shortest : Shortest (two m) s t (entry m (seen m s t))
  seen_shortest = moved_shortest m s t hs ht (entry m (seen m s t)) (entry_shortest m low high (seen m s t) (seen_below m s hs t))

  pub distance-entry : distance (two m) s t ≡ entry m (seen m s t)
  distance-entry =
      shortest_distance (two m) s t (entry m (seen m s t)) (omega (arith, entry_top m low high (seen m s t) (seen_below m s hs t), top_below m low high)) seen_shortest

  -- exact: a path of that many links exists, and none is shorter
  pub distance_is : Shortest (two m) s t (distance (two m) s t)
  distance_is = subst (λ (n : ℕ). Shortest (two m) s t n) (sym distance-entry) seen_shortest
