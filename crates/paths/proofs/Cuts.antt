-- How cut links are counted: two links have the same number only where they are the same (`numbered-two`), a cut that is a link is among those that count
-- (`cut-counts`), and one that stands there already, in either order, counts no more (`cut_again`). Assumes nothing.
use Prim.Native.Nat.{ℕ, suc, ◌+◌, ◌*◌, ◌<◌, min, max}
use Rattle.std.specs.Prelude.{◌≡◌, Bool, ◌⊎◌}
use Rattle.std.proofs.Math.Path.{refl, ap₂}
use Rattle.std.proofs.Common.{sym, ap, ◌∙◌}
use Rattle.std.proofs.Math.Bool.{true, false}
use Rattle.std.proofs.Math.Logic.{inl, inr, ⊎_elim}
use mathlib.Core.List.{List, [], ◌∷◌}
use native.Mathlib.Omega.{arith}
use Rattle.std.proofs.Math.Decide.{ℕ_discrete, dec_lt}
use Rattle.scan.specs.Scan.{pick, has, different}
use Rattle.scan.specs.Laws.{true-or, true-false, either_true, has_first, has_rest}
use Rattle.paths.specs.Mesh.{Mesh}
use Rattle.paths.specs.Places.{row_below}
use Rattle.paths.specs.Whole.{pair, cut, link, numbered, links_of}
use Rattle.paths.specs.Cuts.{Two, pair-two, link-two}

module _ (m : Mesh) where
  -- ---- their numbers

  numbered_back : (a b : ℕ) → numbered m a b ≡ numbered m b a
  unfolding numbered
  numbered_back a b = ap₂ (λ (x y : ℕ). x * m.relays + y) (omega arith) (omega arith)

  two_numbered : (a b u v : ℕ) → Two a b u v → numbered m a b ≡ numbered m u v
  two_numbered a b u v (inl z) = ap₂ (numbered m) z.0 z.1
  two_numbered a b u v (inr z) = ap₂ (numbered m) z.0 z.1 ∙ numbered_back v u

  -- rows of so many numbers each: one number, one row and one place in it
  one-row : (n a b c d : ℕ) → b < n → d < n → a * n + b ≡ c * n + d → (a ≡ c) × (b ≡ d)
  one-row n a b c d h g e = same (dec_lt a c) (dec_lt c a)
    where
      same : Dec (a < c) → Dec (c < a) → (a ≡ c) × (b ≡ d)
      same (yes l) y = absurd (omega (arith, row_below n l))
      same (no x) (yes l) = absurd (omega (arith, row_below n l))
      same (no x) (no y) = let z : a ≡ c = omega arith in (z, omega (arith, ap (λ (i : ℕ). i * n) z))

  pub numbered-two : (a b u v : ℕ) → a < m.relays → b < m.relays → u < m.relays → v < m.relays → numbered m a b ≡ numbered m u v → Two a b u v
  unfolding numbered
  numbered-two a b u v h g k l e =
      let r = one-row m.relays (min a b) (max a b) (min u v) (max u v) (omega arith) (omega arith) e in
      go r.0 r.1 (ℕ_discrete a u)
    where
      go : min a b ≡ min u v → max a b ≡ max u v → Dec (a ≡ u) → Two a b u v
      go p q (yes z) = inl (z, omega arith)
      go p q (no z) = inr (omega arith, omega arith)

  -- ---- what counts

  pub cut-counts : (cuts : List ℕ) (u v : ℕ) → cut cuts u v ≡ true → link m u v ≡ true → has (links_of m cuts) (numbered m u v) ≡ true
  unfolding cut links_of
  cut-counts [] u v e k = absurd (true-false e refl)
  cut-counts (a ∷ []) u v e k = absurd (true-false e refl)
  cut-counts (a ∷ b ∷ cuts) u v e k =
      ⊎_elim (λ z. here (pair-two a b u v z)) (λ z. there (link m a b) (cut-counts cuts u v z k)) (either_true (pair a b u v) (cut cuts u v) e)
    where
      there : (x : Bool) → has (links_of m cuts) (numbered m u v) ≡ true → has (pick x (numbered m a b ∷ links_of m cuts) (links_of m cuts)) (numbered m u v) ≡ true
      there true r = has_rest (numbered m a b) (links_of m cuts) (numbered m u v) r
      there false r = r

      here : Two a b u v → has (pick (link m a b) (numbered m a b ∷ links_of m cuts) (links_of m cuts)) (numbered m u v) ≡ true
      here z = rw (link-two m a b u v z k) (rw (sym (two_numbered a b u v z)) (has_first (numbered m a b) (links_of m cuts)))

  -- a pair that stands among the cuts, in either order, counts no more
  pub cut_again : (a b : ℕ) (cuts : List ℕ) → cut cuts a b ≡ true → different (links_of m (a ∷ b ∷ cuts)) ≡ different (links_of m cuts)
  unfolding links_of different
  cut_again a b cuts e = go (true-or (link m a b))
    where
      go : (link m a b ≡ true) ⊎ (link m a b ≡ false)
          → different (pick (link m a b) (numbered m a b ∷ links_of m cuts) (links_of m cuts)) ≡ different (links_of m cuts)
      go (inl k) = rw k (ap (λ (x : Bool). pick x (different (links_of m cuts)) (suc (different (links_of m cuts)))) (cut-counts cuts a b e k))
      go (inr k) = rw k refl
