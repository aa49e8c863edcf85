-- A walk under way, which writes its relays into a lent slice: what a loop that goes from s to t by `next` keeps. Assumes nothing.
--
-- `walk_starts`, `walk_goes_on` and `walk_ends` are the loop's beginning, turn and end.
use Rattle.std.specs.Prelude.{ℕ, ◌+◌, ◌≤◌, ◌<◌, ◌≡◌, refl, List, ◌++◌, length, drop, set}
use Rattle.std.proofs.Common.{sym, ap, ap₂, ◌∙◌, arith, length-set}
use Rattle.std.proofs.Math.Decide.{ℕ_discrete}
use Rattle.paths.specs.Walk.{node, route, Arrives}
use Rattle.paths.specs.Walks.{node-start, node-more, route-start, route-more}

-- after k of h hops the walk is `at`, and the relays before it are written: `out` with `at` at place k holds the route so far
pub record Walked (next : ℕ → ℕ → ℕ) (s t h : ℕ) (was out : List ℕ) (at k : ℕ) : Type 0 where
  pub bound : k ≤ h
  pub room : h < length was
  pub long : length out ≡ length was
  pub here : at ≡ node next s t k
  pub held : set out k at ≡ route next s t k ++ drop (k + 1) was

module _ (next : ℕ → ℕ → ℕ) (s t h : ℕ) where
  pub walk_starts : (was : List ℕ) → h < length was → Walked next s t h was was s 0
  walk_starts was l = record {
    bound = omega arith;
    room = l;
    long = refl;
    here = sym (node-start next s t);
    held = route-start next s t was (omega arith);
  }

  -- a walk that is not at t has hops to go
  pub walk-short : {k at : ℕ} → Arrives next s t h → k ≤ h → at ≡ node next s t k → (at ≡ t → ⊥) → k < h
  walk-short {k} {at} a l e ne = go (ℕ_discrete k h)
    where
      go : Dec (k ≡ h) → k < h
      go (yes z) = absurd (ne (e ∙ ap (node next s t) z ∙ a.there))
      go (no z) = omega arith

  -- a walk that is at t has gone all its hops
  pub walk-all : {k at : ℕ} → Arrives next s t h → k ≤ h → at ≡ node next s t k → at ≡ t → k ≡ h
  walk-all {k} {at} a l e there = go (ℕ_discrete k h)
    where
      go : Dec (k ≡ h) → k ≡ h
      go (yes z) = z
      go (no z) = absurd (a.not-before k (omega arith) (sym e ∙ there))

  pub walk_goes_on : {was out : List ℕ} {at to k : ℕ} → Arrives next s t h → Walked next s t h was out at k → (at ≡ t → ⊥) → to ≡ next at t
      → Walked next s t h was (set out k at) to (k + 1)
  walk_goes_on {was} {out} {at} {to} {k} a w ne e =
      let l = walk-short a w.bound w.here ne in
      let hop : to ≡ next (node next s t k) t = e ∙ ap (λ (x : ℕ). next x t) w.here in
      record {
        bound = omega arith;
        room = w.room;
        long = simp length-set w.long;
        here = hop ∙ node-more next s t k;
        held = ap₂ (λ (o : List ℕ) (x : ℕ). set o (k + 1) x) w.held hop ∙ route-more next s t k was (omega (arith, w.room));
      }

  pub walk_ends : {was out : List ℕ} {at k : ℕ} → Arrives next s t h → Walked next s t h was out at k → at ≡ t
      → (k ≡ h) × (set out k at ≡ route next s t h ++ drop (h + 1) was)
  walk_ends {was} {out} {at} {k} a w there =
      let all = walk-all a w.bound w.here there in
      (all, w.held ∙ ap (λ (j : ℕ). route next s t j ++ drop (j + 1) was) all)
