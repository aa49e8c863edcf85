-- A plain route within the longest path (`Routed`) is a way (`routed-way`) and a fan of one target where it is written before fillers (`routed-fan`).
-- Assumes nothing.
use Prim.Native.Nat.{ℕ, zero, suc, ◌+◌, ◌-◌, ◌*◌, ◌≤◌, ◌<◌}
use Rattle.std.specs.Prelude.{◌≡◌, ◌⊎◌, List, [], ◌∷◌, ◌++◌, length, drop}
use Rattle.std.proofs.Math.Path.{refl, ap, ap₂, subst}
use Rattle.std.proofs.Common.{sym, ◌∙◌, inl, le_refl, add-one, get_or-append-add, get_or-drop}
use native.Mathlib.Omega.{arith}
use Rattle.std.proofs.Math.ListN.{get_or, get_or-append}
use Rattle.paths.specs.Mesh.{Mesh, width}
use Rattle.paths.specs.Fan.{filler, relay, hops, Path, Fan}
use Rattle.paths.specs.Walk.{node, route}
use Rattle.paths.specs.Walks.{node-start, route-length, route-at}
use Rattle.paths.specs.Ways.{Way}
use Rattle.paths.specs.Routed.{node_once, Routed}

module _ (m : Mesh) (next : ℕ → ℕ → ℕ) (s t h : ℕ) (r : Routed m next s t h) where
  -- the rest of the way, after k hops
  way-from : (k n : ℕ) → k + n ≡ h → Way m n (node next s t k) t
  way-from k zero e = let end : k ≡ h = omega arith in ap (node next s t) end ∙ r.arrives.there
  way-from k (suc n) e = (node next s t (suc k), r.below (suc k) (omega arith), r.linked k (omega arith), way-from (suc k) n (omega arith))

  pub routed-way : Way m h s t
  routed-way = subst (λ (u : ℕ). Way m h u t) (node-start next s t) (way-from 0 h (omega arith))

  -- written over the front of a slice that holds fillers there
  module _ (out : List ℕ) (filled : (p : ℕ) → h < p → p ≤ m.longest → get_or out p 0 ≡ filler) where
    abbrev places : List ℕ
    places = route next s t h ++ drop (h + 1) out

    abbrev counts : List ℕ
    counts = h ∷ []

    at_place : (p : ℕ) → relay (width m) places 0 p ≡ get_or places p 0
    unfolding relay
    at_place p = let e : 0 * width m + p ≡ p = omega arith in ap (λ (k : ℕ). get_or places k 0) e

    on-route : (p : ℕ) → p ≤ h → relay (width m) places 0 p ≡ node next s t p
    on-route p l =
        at_place p ∙ get_or-append (route next s t h) (drop (h + 1) out) 0 p (omega (arith, route-length next s t h)) ∙ route-at next s t h p l

    after : (p : ℕ) → h < p → relay (width m) places 0 p ≡ get_or out p 0
    after p l =
        let here : p ≡ length (route next s t h) + (p - (h + 1)) = omega (arith, route-length next s t h) in
        let there : h + 1 + (p - (h + 1)) ≡ p = omega arith in
        at_place p ∙ ap (λ (k : ℕ). get_or places k 0) here ∙ get_or-append-add (route next s t h) (drop (h + 1) out) (p - (h + 1)) 0
        ∙ get_or-drop (h + 1) out (p - (h + 1)) 0 ∙ ap (λ (k : ℕ). get_or out k 0) there

    step : (p : ℕ) → p < h → relay (width m) places 0 (p + 1) ≡ node next s t (suc p)
    step p l = on-route (p + 1) (omega arith) ∙ ap (node next s t) (add-one p)

    path : Path m s t places counts 0
    unfolding hops
    path = record {
      short = r.short;
      starts = on-route 0 (omega arith) ∙ node-start next s t;
      linked = λ p l. (
        subst (λ (x : ℕ). x < m.relays) (sym (step p l)) (r.below (suc p) l),
        ap₂ (λ (x y : ℕ). m.linked x y) (on-route p (omega arith)) (step p l) ∙ r.linked p l,
      );
      ends = on-route h (le_refl h) ∙ r.arrives.there;
      filled = λ p l g. after p l ∙ filled p l g;
    }

    pub routed-fan : Fan m s (t ∷ []) (route next s t h ++ drop (h + 1) out) (h ∷ [])
    unfolding hops
    routed-fan = record { path = paths; apart = one }
      where
        paths : (i : ℕ) → i < 1 → Path m s (get_or (t ∷ []) i 0) places counts i
        paths zero l = path
        paths (suc i) l = absurd (omega arith)

        one : (i j p q : ℕ) → i < 1 → j < 1 → p ≤ hops counts i → q ≤ hops counts j
            → relay (width m) places i p ≡ relay (width m) places j q → ((i ≡ j) × (p ≡ q)) ⊎ ((p ≡ 0) × (q ≡ 0))
        one zero zero p q l n a b e = inl (refl, node_once next s t h r.arrives p q a b (sym (on-route p a) ∙ e ∙ on-route q b))
        one zero (suc j) p q l n a b e = absurd (omega arith)
        one (suc i) j p q l n a b e = absurd (omega arith)
