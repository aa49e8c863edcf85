-- The plain route of a cube, of any n up to 64, is one within the longest path (`plain_routed`), and visits no relay twice (`plain_once`). Assumes nothing.
use Rattle.std.specs.Prelude.{ℕ, ◌^◌, ◌≤◌, ◌<◌}
use Rattle.std.proofs.Common.{arith}
use Rattle.paths.specs.Lists.{Fresh}
use Rattle.paths.specs.Routed.{Routed, route-fresh}
use Rattle.cube.specs.Cube.{cube}
use Rattle.cube.specs.Route.{next, hops, route}
use Rattle.cube.specs.Routes.{hops-most, route_arrives, route-below, route-linked}

module _ (n s t : ℕ) (l : n ≤ 64) (hs : s < 2 ^ n) (ht : t < 2 ^ n) where
  pub plain_routed : Routed (cube n) next s t (hops s t)
  plain_routed = record {
    arrives = route_arrives n s t l hs ht;
    short = omega (arith, hops-most n s t l hs ht);
    below = route-below n s t l hs ht;
    linked = route-linked n s t l hs ht;
  }

  pub plain_once : Fresh (route s t)
  unfolding route
  plain_once = route-fresh next s t (hops s t) (route_arrives n s t l hs ht)
