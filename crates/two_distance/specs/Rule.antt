-- The rule of a table of hop counts from relay 0: relay 0 has 0; linked relays differ by at most 1; every other relay has a linked relay with
-- one less. By it alone each entry is the length of a shortest path from relay 0 (`rule_shortest`), over any mesh whose links go both ways.
-- Assumes nothing.
use Rattle.std.specs.Prelude.{ℕ, zero, suc, ◌+◌, ◌≤◌, ◌<◌, ◌≡◌, refl, true, ◌≢◌}
use Rattle.std.proofs.Common.{sym, ap, ◌∙◌, arith}
use Rattle.std.proofs.Math.Decide.{ℕ_discrete}
use Rattle.paths.specs.Mesh.{Mesh}
use Rattle.paths.specs.Ways.{Way, Shortest, way-more}

pub record Rule (mesh : Mesh) (entry : ℕ → ℕ) : Type 0 where
  pub start : entry 0 ≡ 0
  pub near : (u v : ℕ) → u < mesh.relays → v < mesh.relays → mesh.linked u v ≡ true → entry v ≤ entry u + 1
  pub down : (u : ℕ) → u < mesh.relays → u ≢ 0 → (v : ℕ) × (v < mesh.relays) × (mesh.linked u v ≡ true) × (entry u ≡ entry v + 1)

module _ (mesh : Mesh) (entry : ℕ → ℕ) (rule : Rule mesh entry) (both : (u v : ℕ) → u < mesh.relays → v < mesh.relays → mesh.linked u v ≡ mesh.linked v u) where
  -- a path of n links raises the entry by n at most
  rises : (n u v : ℕ) → u < mesh.relays → Way mesh n u v → entry v ≤ entry u + n
  rises zero u v h e = omega (arith, ap entry e)
  rises (suc n) u v h (w, a, l, r) = omega (arith, rises n w v a r, rule.near u w h a l)

  -- to each relay a path of as many links as its entry says
  reach : (n v : ℕ) → v < mesh.relays → entry v ≡ n → Way mesh n 0 v
  reach zero v h e = home (ℕ_discrete v 0)
    where
      home : Dec (v ≡ 0) → 0 ≡ v
      home (yes z) = sym z
      home (no ne) = let (w, a, l, d) = rule.down v h ne in absurd (omega (arith, e, d))
  reach (suc n) v h e = far (ℕ_discrete v 0) (λ w a z. reach n w a z)
    where
      far : Dec (v ≡ 0) → ((w : ℕ) → w < mesh.relays → entry w ≡ n → Way mesh n 0 w) → Way mesh (suc n) 0 v
      far (yes z) rest = absurd (omega (arith, e, ap entry z, rule.start))
      far (no ne) rest = let (w, a, l, d) = rule.down v h ne in way-more mesh n 0 w v (rest w a (omega arith)) h (both w v a h ∙ l)

  pub rule_shortest : (v : ℕ) → 0 < mesh.relays → v < mesh.relays → Shortest mesh 0 v (entry v)
  rule_shortest v z h = record { way = reach (entry v) v h refl; least = λ k w. omega (arith, rises k 0 v z w, rule.start) }
