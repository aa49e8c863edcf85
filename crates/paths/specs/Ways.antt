-- Paths of links over any mesh (`Way`), the shortest (`Shortest`), and the distance: the fewest links of a path (`distance`).
-- `shortest_distance`: the length of a shortest path is the distance; `distance_shortest`: the distance is then the length of a
-- shortest path. `way-more`, `way-map`: a path with one link more, and a path moved. Assumes nothing.
use Prim.Native.Nat.{ℕ, zero, suc, ◌≤◌, ◌<◌}
use Rattle.std.specs.Prelude.{◌≡◌, refl, Bool, true, ◌&&◌, eqb}
use Rattle.std.proofs.Common.{sym, ap₂, ◌∙◌, subst}
use Rattle.std.proofs.Math.Path.{ap}
use native.Mathlib.Omega.{arith}
use borrow.Author.Tests.{eqb-true, eq-eqb}
use Rattle.scan.specs.Scan.{seek, any}
use Rattle.scan.specs.Laws.{not-true, both_true, any-true, true-any, first-seek}
use Rattle.paths.specs.Mesh.{Mesh}
use Rattle.paths.specs.Walk.{number}

-- a path of n links from u to v: the relays after u are relays of the mesh
abbrev pub Way : (mesh : Mesh) (n u v : ℕ) → Type 0
Way mesh zero u v = u ≡ v
Way mesh (suc n) u v = (w : ℕ) × (w < mesh.relays) × (mesh.linked u w ≡ true) × Way mesh n w v

-- n is the fewest links of a path from u to v
pub record Shortest (mesh : Mesh) (u v n : ℕ) : Type 0 where
  pub way : Way mesh n u v
  pub least : (k : ℕ) → Way mesh k u v → n ≤ k

-- whether a path of n links leads from u to v
unfoldable pub reaches : (mesh : Mesh) (n u v : ℕ) → Bool
reaches mesh zero u v = eqb u v
reaches mesh (suc n) u v = any (λ w. mesh.linked u w && reaches mesh n w v) 0 mesh.relays

-- the fewest links of a path from u to v; a shortest path has fewer links than there are relays
unfoldable pub distance : (mesh : Mesh) (u v : ℕ) → ℕ
distance mesh u v = number (seek (λ n. reaches mesh n u v) 0 mesh.relays)

module _ (mesh : Mesh) where
  pub way-reaches : (n u v : ℕ) → Way mesh n u v → reaches mesh n u v ≡ true
  unfolding reaches
  way-reaches zero u v e = eq-eqb u v e
  way-reaches (suc n) u v (w, h, l, r) =
      true-any (λ w. mesh.linked u w && reaches mesh n w v) 0 mesh.relays w (omega arith) (omega arith) (ap₂ (λ (x y : Bool). x && y) l (way-reaches n w v r))

  pub reaches-way : (n u v : ℕ) → reaches mesh n u v ≡ true → Way mesh n u v
  unfolding reaches
  reaches-way zero u v t = eqb-true u v t
  reaches-way (suc n) u v t =
      let (w, a, b, e) = any-true (λ w. mesh.linked u w && reaches mesh n w v) 0 mesh.relays t in
      let (l, r) = both_true (mesh.linked u w) (reaches mesh n w v) e in
      (w, omega arith, l, reaches-way n w v r)

  pub shortest_distance : (u v n : ℕ) → n < mesh.relays → Shortest mesh u v n → distance mesh u v ≡ n
  unfolding distance
  shortest_distance u v n h s =
      ap number (first-seek (λ k. reaches mesh k u v) 0 mesh.relays n (record {
        from = omega arith;
        within = omega arith;
        holds = way-reaches n u v s.way;
        before = λ k a b. not-true (λ t. let l = s.least k (reaches-way k u v t) in omega arith);
      }))

  -- there is one shortest length
  pub shortest_one : (u v n k : ℕ) → Shortest mesh u v n → Shortest mesh u v k → n ≡ k
  shortest_one u v n k s t = omega (arith, s.least k t.way, t.least n s.way)

  pub distance_shortest : (u v n : ℕ) → n < mesh.relays → Shortest mesh u v n → Shortest mesh u v (distance mesh u v)
  distance_shortest u v n h s = subst (λ (k : ℕ). Shortest mesh u v k) (sym (shortest_distance u v n h s)) s

  -- one link more at the end
  pub way-more : (n u v w : ℕ) → Way mesh n u v → w < mesh.relays → mesh.linked v w ≡ true → Way mesh (suc n) u w
  way-more zero u v w e h l = (w, h, ap (λ (x : ℕ). mesh.linked x w) e ∙ l, refl)
  way-more (suc n) u v w (x, a, b, r) h l = (x, a, b, way-more n x v w r h l)

  -- a path seen through a map of the relays that keeps links
  pub way-map : (f : ℕ → ℕ) → ((x : ℕ) → x < mesh.relays → f x < mesh.relays)
      → ((x y : ℕ) → x < mesh.relays → y < mesh.relays → mesh.linked (f x) (f y) ≡ mesh.linked x y)
      → (n u v : ℕ) → u < mesh.relays → Way mesh n u v → Way mesh n (f u) (f v)
  way-map f within keeps zero u v h e = ap f e
  way-map f within keeps (suc n) u v h (w, a, l, r) = (f w, within w a, keeps u w h a ∙ l, way-map f within keeps n w v a r)
