-- The distance of orders 1 to 3 is one to lean on: the same from either end (`distance-same`), 0 exactly between a relay and itself (`distance_none`,
-- `distance-home`), at most the sum by way of any third relay (`distance_by`), and at most the hops of any way (`distance_least`), so of any path of a fan
-- (`distance-fan`) or bundle (`distance_bundle`), and of the plain route (`distance-route`). With examples. Assumes nothing.
use Rattle.std.specs.Prelude.{ℕ, ◌+◌, ◌≤◌, ◌<◌, ◌≡◌, List, length, get_or}
use Rattle.paths.specs.Fan as fan
use Rattle.paths.specs.Fan.{Fan}
use Rattle.paths.specs.Bundles.{Bundle}
use Rattle.paths.specs.Ways.{Way, Shortest, distance, shortest_one}
use Rattle.paths.specs.Metric.{shortest_back, shortest_none, shortest_home, shortest_by, fan_least, bundle_least}
use Rattle.paths.proofs.Routed.{routed-way}
use Rattle.two_parts.specs.Two.{relays, two}
use Rattle.two_parts.proofs.NearLaws.{links}
use Rattle.two.specs.Next.{next, hops}
use Rattle.two.proofs.Once.{plain_routed}
use Rattle.two_distance.proofs.Moved.{distance_is}

module _ (m : ℕ) (low : 1 ≤ m) (high : m ≤ 3) where
  module _ (s t : ℕ) (hs : s < relays m) (ht : t < relays m) where
    exact : Shortest (two m) s t (distance (two m) s t)
    exact = distance_is m s t low high hs ht

    pub distance-same : distance (two m) s t ≡ distance (two m) t s
    distance-same =
        shortest_one (two m) s t (distance (two m) s t) (distance (two m) t s) exact
        (shortest_back (two m) (links m).both t s (distance (two m) t s) ht hs (distance_is m t s low high ht hs))

    pub distance_none : distance (two m) s t ≡ 0 → s ≡ t
    distance_none e = shortest_none (two m) s t (distance (two m) s t) exact e

    pub distance-home : s ≡ t → distance (two m) s t ≡ 0
    distance-home e = shortest_home (two m) s t (distance (two m) s t) exact e

    pub distance_by : (v : ℕ) → v < relays m → distance (two m) s t ≤ distance (two m) s v + distance (two m) v t
    distance_by v hv =
        shortest_by (two m) s v t (distance (two m) s t) (distance (two m) s v) (distance (two m) v t) exact
        (distance_is m s v low high hs hv) (distance_is m v t low high hv ht)

    pub distance_least : (k : ℕ) → Way (two m) k s t → distance (two m) s t ≤ k
    distance_least k w = exact.least k w

    pub distance-fan : (targets places counts : List ℕ) (i : ℕ) → Fan (two m) s targets places counts → i < length targets → get_or targets i 0 ≡ t
        → distance (two m) s t ≤ fan.hops counts i
    distance-fan targets places counts i f h e = fan_least (two m) s t (distance (two m) s t) distance_least places counts i targets f h e

    pub distance_bundle : (places counts : List ℕ) (i : ℕ) → Bundle (two m) s t places counts → i < (two m).links → distance (two m) s t ≤ fan.hops counts i
    distance_bundle places counts i b h = bundle_least (two m) s t (distance (two m) s t) distance_least places counts i b h

    pub distance-route : distance (two m) s t ≤ hops m s t
    distance-route = distance_least (hops m s t) (routed-way (two m) (next m) s t (hops m s t) (plain_routed m s t hs ht))
