-- The plain route of a metacube, of every size: it is one within the longest path (`plain_routed`), has at most 2 ^ k - 1 + k hops above the number of differing part bits
-- (`hops_bound`), and visits no relay twice (`plain_once`): its rank falls with each hop. Assumes nothing.
use Rattle.std.specs.Prelude.{ℕ, ◌+◌, ◌-◌, ◌^◌, ◌≤◌, ◌<◌, ◌≡◌, Bool}
use Rattle.std.proofs.Common.{ap, arith, eq-eqb}
use Rattle.std.proofs.Math.Decide.{ℕ_discrete}
use Rattle.std.specs.Int.Bits.{bit_xor}
use Rattle.std.specs.Int.Count.{ones}
use Rattle.bits.specs.Bit.{flip}
use Rattle.scan.specs.Scan.{pick}
use Rattle.paths.specs.Lists.{Fresh}
use Rattle.paths.specs.Routed.{Routed, route-fresh}
use Rattle.paths.specs.Ranked.{Ranked, ranked_most, ranked_routed}
use Rattle.meta_parts.specs.Meta.{relays, class_of, parts_of, meta}
use Rattle.meta_parts.specs.Sizes.{Sized}
use Rattle.meta.specs.Next.{turn, next, hops, route}
use Rattle.meta.proofs.Turns as turns
use Rattle.meta.proofs.Ranks.{rank, rank_bound, rank-longest, next-less}

-- the target is its own next hop
pub next-there : (k m u t : ℕ) → u ≡ t → next k m u t ≡ u
unfolding next
next-there k m u t e = ap (λ (b : Bool). pick b u (flip u (turn k m (class_of k m u) (class_of k m t) (bit_xor u t)))) (eq-eqb u t e)

module _ (k m : ℕ) (z : Sized k m) (t : ℕ) (ht : t < relays k m) where
  pub next-below : (u : ℕ) → u < relays k m → next k m u t < relays k m
  next-below u h = go (ℕ_discrete u t)
    where
      go : Dec (u ≡ t) → next k m u t < relays k m
      go (yes e) = rw (next-there k m u t e) h
      go (no ne) = turns.next-below k m z u t h ht ne

  pub ranked : Ranked (meta k m) (next k m) (λ u. rank k m u t) t
  ranked = record {
    short = rank-longest k m z t ht;
    below = next-below;
    linked = λ u h ne. turns.next-linked k m z u t h ht ne;
    falls = next-less k m z t ht;
  }

  module _ (s : ℕ) (hs : s < relays k m) where
    pub plain_routed : Routed (meta k m) (next k m) s t (hops k m s t)
    unfolding hops
    plain_routed = ranked_routed (meta k m) (next k m) (λ u. rank k m u t) t ranked s hs

    pub hops_bound : hops k m s t ≤ 2 ^ k - 1 + k + ones (parts_of k m (bit_xor s t))
    unfolding hops
    hops_bound = omega (arith, ranked_most (meta k m) (next k m) (λ u. rank k m u t) t ranked s hs, rank_bound k m z t ht s hs)

    pub plain_once : Fresh (route k m s t)
    unfolding route
    plain_once = route-fresh (next k m) s t (hops k m s t) plain_routed.arrives
