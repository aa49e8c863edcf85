-- A pair is brought to relay 0: a shortest path from there to the target as the source sees it makes one of the pair (`moved_shortest`). That the entry is the
-- distance stands in proofs/Moved.antt. The refusals, case by case. Assumes nothing.
use Rattle.std.specs.Prelude.{ℕ, zero, suc, ◌+◌, ◌^◌, ◌≤◌, ◌<◌, ◌≡◌, Bool, false, not, ◌++◌, ltb}
use Rattle.std.proofs.Math.Path.{sym, ap}
use Rattle.std.proofs.Common.{ap₂, ◌∙◌, subst, arith, pow_pos, lt-ltb, le-ltb}
use Rattle.std.proofs.Math.Option.{Option, some}
use Rattle.answers.specs.Order.{first, size_faults, distance_faults, pair_faults}
use Rattle.answers.specs.declared.Refusal.{Refusal}
use Rattle.answers.specs.declared.Refusal.TheVariants.{UnknownSize, NoDistance}
use Rattle.two_parts.specs.Two.{known, relays, two}
use Rattle.two_parts.specs.Seen.{seen}
use Rattle.two_parts.specs.Moves.{unseen, seen_below, seen-home, seen-linked, unseen-below, unseen-seen, unseen-linked}
use Rattle.two_parts.specs.Parts.{bounds_known, high_unknown}
use Rattle.two.specs.Says.{pair_against}
use Rattle.paths.specs.Ways.{Way, Shortest, way-map}
use Rattle.two_distance.specs.Tested.{top}
use Rattle.two_distance.specs.Says.{distance_against}

-- ---- from relay 0 to any source, for every order

module _ (m s t : ℕ) (hs : s < relays m) (ht : t < relays m) where
  unseen-home : unseen m s 0 ≡ s
  unseen-home = ap (unseen m s) (sym (seen-home m s hs)) ∙ unseen-seen m s hs s hs

  pub moved_shortest : (n : ℕ) → Shortest (two m) 0 (seen m s t) n → Shortest (two m) s t n
  moved_shortest n sh = record {
    way = subst (λ (v : ℕ). Way (two m) n s v) (unseen-seen m s hs t ht)
        (subst (λ (u : ℕ). Way (two m) n u (unseen m s (seen m s t))) unseen-home
        (way-map (two m) (unseen m s) (λ x h. unseen-below m s hs x) (unseen-linked m s hs) n 0 (seen m s t) (pow_pos (2 ^ m + m)) sh.way));
    least = λ k w. sh.least k (subst (λ (u : ℕ). Way (two m) k u (seen m s t)) (seen-home m s hs)
        (way-map (two m) (seen m s) (λ x h. seen_below m s hs x) (seen-linked m s hs) k s t hs w));
  }

-- ---- orders 1 to 3

pub top_below : (m : ℕ) → 1 ≤ m → m ≤ 3 → top m < relays m
top_below zero h g = absurd (omega arith)
top_below (suc zero) h g = omega arith
top_below (suc (suc zero)) h g = omega arith
top_below (suc (suc (suc zero))) h g = omega arith
top_below (suc (suc (suc (suc m)))) h g = absurd (omega arith)

-- ---- refusals

-- the faults by the order's two tests
by_tests : (m s t : ℕ) (known undistanced : Bool) → Option Refusal
by_tests m s t known undistanced = first (size_faults (not known) ++ distance_faults undistanced ++ pair_faults (relays m) s t)

module _ (m s t : ℕ) where
  pub distance-near : m ≤ 3 → distance_against m s t ≡ pair_against m s t false
  unfolding by_tests
  distance-near h = ap (by_tests m s t (known m)) (le-ltb 3 m h)

  pub distance-far : 3 < m → m ≤ 5 → some NoDistance ≡ distance_against m s t
  unfolding by_tests
  distance-far h g = sym (ap₂ (by_tests m s t) (bounds_known m (omega arith) g) (lt-ltb 3 m h))

  pub distance-unknown : 5 < m → some UnknownSize ≡ distance_against m s t
  unfolding by_tests
  distance-unknown h = sym (ap (λ (x : Bool). by_tests m s t x (ltb 3 m)) (high_unknown m h))
