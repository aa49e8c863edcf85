-- How many moves of the class there are yet to make: to the last, along the cycle from class c, of the classes whose part differs (`far`). It is no more than any bound of a single one
-- (`far-most`), no less than each of them (`far_least`), no more where fewer parts differ (`far_fewer`), and one less after a move (`far-moved`). Assumes nothing.
use Prim.Native.Nat.{ℕ, zero, suc, ◌+◌, ◌-◌, ◌≤◌, ◌<◌, max}
use Rattle.std.specs.Prelude.{◌≡◌, Bool, ◌≢◌, eqb}
use Rattle.std.proofs.Math.Path.{ap}
use native.Mathlib.Omega.{arith}
use Rattle.std.proofs.Math.Decide.{ℕ_discrete}
use Rattle.std.proofs.Common.{eq-eqb, ne_eqb}
use Rattle.scan.specs.Scan.{pick}
use Rattle.meta_parts.specs.Meta.{part}
use Rattle.meta.specs.Cycle.{away}

-- the moves to class e, where its part is among the differing bits of y
unfoldable pub moves : (k m c y e : ℕ) → ℕ
moves k m c y e = pick (eqb (part m e y) 0) 0 (away k c e)

-- the most of them over the first n classes
unfoldable pub far : (k m c y n : ℕ) → ℕ
far k m c y zero = 0
far k m c y (suc e) = max (far k m c y e) (moves k m c y e)

moves-none : (k m c y e : ℕ) → part m e y ≡ 0 → moves k m c y e ≡ 0
unfolding moves
moves-none k m c y e z = ap (λ (b : Bool). pick b 0 (away k c e)) (eq-eqb (part m e y) 0 z)

moves-some : (k m c y e : ℕ) → part m e y ≢ 0 → moves k m c y e ≡ away k c e
unfolding moves
moves-some k m c y e ne = ap (λ (b : Bool). pick b 0 (away k c e)) (ne_eqb (part m e y) 0 ne)

module _ (k m : ℕ) where
  pub far-most : (c y w n : ℕ) → ((e : ℕ) → e < n → away k c e ≤ w) → far k m c y n ≤ w
  unfolding far
  far-most c y w zero h = omega arith
  far-most c y w (suc e) h = go (ℕ_discrete (part m e y) 0) (far-most c y w e (λ i l. h i (omega arith)))
    where
      go : Dec (part m e y ≡ 0) → far k m c y e ≤ w → max (far k m c y e) (moves k m c y e) ≤ w
      go (yes z) r = omega (arith, moves-none k m c y e z)
      go (no ne) r = omega (arith, moves-some k m c y e ne, h e (omega arith))

  pub far_least : (c y n e : ℕ) → e < n → part m e y ≢ 0 → away k c e ≤ far k m c y n
  unfolding far
  far_least c y zero e l ne = absurd (omega arith)
  far_least c y (suc n) e l ne = go (ℕ_discrete e n) (λ g. far_least c y n e g ne)
    where
      go : Dec (e ≡ n) → (e < n → away k c e ≤ far k m c y n) → away k c e ≤ max (far k m c y n) (moves k m c y n)
      go (yes z) rest = omega (arith, moves-some k m c y e ne, ap (moves k m c y) z)
      go (no g) rest = omega (arith, rest (omega arith))

  pub far_fewer : (c x y n : ℕ) → ((e : ℕ) → e < n → part m e x ≢ 0 → part m e y ≢ 0) → far k m c x n ≤ far k m c y n
  unfolding far
  far_fewer c x y zero h = omega arith
  far_fewer c x y (suc e) h = go (ℕ_discrete (part m e x) 0) (far_fewer c x y e (λ i l. h i (omega arith)))
    where
      go : Dec (part m e x ≡ 0) → far k m c x e ≤ far k m c y e → max (far k m c x e) (moves k m c x e) ≤ max (far k m c y e) (moves k m c y e)
      go (yes z) r = omega (arith, moves-none k m c x e z)
      go (no ne) r = omega (arith, moves-some k m c x e ne, moves-some k m c y e (h e (omega arith) ne))

  pub far-moved : (c d y n : ℕ) → ((e : ℕ) → e < n → part m e y ≢ 0 → away k d e + 1 ≡ away k c e) → far k m d y n ≤ far k m c y n - 1
  unfolding far
  far-moved c d y zero h = omega arith
  far-moved c d y (suc e) h = go (ℕ_discrete (part m e y) 0) (far-moved c d y e (λ i l. h i (omega arith)))
    where
      go : Dec (part m e y ≡ 0) → far k m d y e ≤ far k m c y e - 1 → max (far k m d y e) (moves k m d y e) ≤ max (far k m c y e) (moves k m c y e) - 1
      go (yes z) r = omega (arith, moves-none k m d y e z)
      go (no ne) r = omega (arith, moves-some k m d y e ne, moves-some k m c y e ne, h e (omega arith) ne)
