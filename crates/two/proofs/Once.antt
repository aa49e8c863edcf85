-- The plain route of the two-level mesh, of every order, is one within the longest path (`plain_routed`), and visits no relay twice (`plain_once`): its rank
-- falls with each hop. Assumes nothing.
use Rattle.std.specs.Prelude.{ℕ, ◌<◌}
use Rattle.paths.specs.Lists.{Fresh}
use Rattle.paths.specs.Routed.{Routed, route-fresh}
use Rattle.two_parts.specs.Two.{relays, two}
use Rattle.two.specs.Next.{next, hops, route}
use Rattle.two.proofs.Rank as steps

module _ (m s t : ℕ) (hs : s < relays m) (ht : t < relays m) where
  pub plain_routed : Routed (two m) (next m) s t (hops m s t)
  plain_routed = steps.plain_routed m t ht s hs

  pub plain_once : Fresh (route m s t)
  unfolding route
  plain_once = route-fresh (next m) s t (hops m s t) plain_routed.arrives
