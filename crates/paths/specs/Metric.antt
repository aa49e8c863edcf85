-- Shortest ways are distances, over any mesh. Where links go both ways, they are as long from either end (`shortest_back`); of no links exactly between a relay
-- and itself (`shortest_none`, `shortest_home`); never longer than two by way of a third relay (`shortest_by`). A path by any rules is a way of as many links
-- as it has hops (`path-way`), so none is shorter (`fan_least`, `bundle_least`). Assumes nothing.
use Rattle.std.specs.Prelude.{ℕ, zero, suc, ◌+◌, ◌≤◌, ◌<◌, ◌≡◌, List, length, get_or}
use Rattle.std.proofs.Common.{sym, ap, ◌∙◌, subst, zero-add, suc-add, arith}
use Rattle.paths.specs.Mesh.{Mesh}
use Rattle.paths.specs.Rules.{Rules, span}
use Rattle.paths.specs.Fan.{PathBy, Fan, relay, hops}
use Rattle.paths.specs.Bundles.{Bundle}
use Rattle.paths.specs.Ways.{Way, Shortest, way-more}

module _ (mesh : Mesh) where
  -- one way after another
  pub way_join : (n k u v w : ℕ) → Way mesh n u v → Way mesh k v w → Way mesh (n + k) u w
  way_join zero k u v w e r = rw (zero-add k) (subst (λ (x : ℕ). Way mesh k x w) (sym e) r)
  way_join (suc n) k u v w (x, a, l, r) q = rw (suc-add n k) (x, a, l, way_join n k x v w r q)

  module _ (both : (u v : ℕ) → u < mesh.relays → v < mesh.relays → mesh.linked u v ≡ mesh.linked v u) where
    -- a way turned round
    pub way_back : (n u v : ℕ) → u < mesh.relays → Way mesh n u v → Way mesh n v u
    way_back zero u v h e = sym e
    way_back (suc n) u v h (w, a, l, r) = way-more mesh n v w u (way_back n w v a r) h (both w u a h ∙ l)

    pub shortest_back : (u v n : ℕ) → u < mesh.relays → v < mesh.relays → Shortest mesh u v n → Shortest mesh v u n
    shortest_back u v n hu hv s = record { way = way_back n u v hu s.way; least = λ k w. s.least k (way_back k v u hv w) }

  pub shortest_none : (u v n : ℕ) → Shortest mesh u v n → n ≡ 0 → u ≡ v
  shortest_none u v n s e = subst (λ (k : ℕ). Way mesh k u v) e s.way

  pub shortest_home : (u v n : ℕ) → Shortest mesh u v n → u ≡ v → n ≡ 0
  shortest_home u v n s e = omega (arith, s.least 0 e)

  pub shortest_by : (u v w n a b : ℕ) → Shortest mesh u w n → Shortest mesh u v a → Shortest mesh v w b → n ≤ a + b
  shortest_by u v w n a b s x y = s.least (a + b) (way_join a b u v w x.way y.way)

-- ---- paths as they are lent

module _ (r : Rules) (s t : ℕ) (places counts : List ℕ) (i : ℕ) (path : PathBy r s t places counts i) where
  -- the rest of the path, after its place p
  way-from : (p n : ℕ) → p + n ≡ hops counts i → Way r.mesh n (relay (span r) places i p) t
  way-from p zero e = let end : p ≡ hops counts i = omega arith in ap (relay (span r) places i) end ∙ path.ends
  way-from p (suc n) e =
      let k = path.linked p (omega arith) in
      (relay (span r) places i (p + 1), k.0, k.1, way-from (p + 1) n (omega arith))

  pub path-way : Way r.mesh (hops counts i) s t
  path-way = subst (λ (u : ℕ). Way r.mesh (hops counts i) u t) path.starts (way-from 0 (hops counts i) (omega arith))

module _ (mesh : Mesh) (s t d : ℕ) (least : (k : ℕ) → Way mesh k s t → d ≤ k) (places counts : List ℕ) (i : ℕ) where
  -- no path of a fan is shorter, nor any of a bundle
  pub fan_least : (targets : List ℕ) → Fan mesh s targets places counts → i < length targets → get_or targets i 0 ≡ t → d ≤ hops counts i
  fan_least targets f h e = least (hops counts i) (subst (λ (v : ℕ). Way mesh (hops counts i) s v) e (path-way _ s (get_or targets i 0) places counts i (f.path i h)))

  pub bundle_least : Bundle mesh s t places counts → i < mesh.links → d ≤ hops counts i
  bundle_least b h = least (hops counts i) (path-way _ s t places counts i (b.path i h))
