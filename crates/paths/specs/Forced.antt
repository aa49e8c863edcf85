-- Paths that can go one way only. A relay with two links, one of which a path came by, is left by the other (`onward`), and a path that has come to its
-- target ends there (`arrived`): so a fan in a small mesh is shown to be the only one. Assumes nothing.
use Rattle.std.specs.Prelude.{ℕ, ◌<◌, ◌≡◌, refl, Bool, true, false, not, ◌&&◌, ◌||◌, ◌⊎◌, ◌≢◌, List, [], ◌∷◌, eqb}
use Rattle.std.proofs.Common.{sym, ap, subst, inl, inr, ⊎_elim, arith, ne_eqb}
use Rattle.std.proofs.Math.Decide.{ℕ_discrete}
use Rattle.scan.specs.Scan.{any}
use Rattle.scan.specs.Laws.{true-false, any_false}
use Rattle.paths.specs.Mesh.{Mesh}
use Rattle.paths.specs.Lists.{In, Fresh, Chain}

-- u is linked to a and b and to no other relay
abbrev pub Links : Mesh → ℕ → ℕ → ℕ → Type 0
Links m u a b = (x : ℕ) → x < m.relays → m.linked u x ≡ true → (x ≡ a) ⊎ (x ≡ b)

-- a link of u that is neither
unfoldable pub other : (m : Mesh) (u a b : ℕ) → ℕ → Bool
other m u a b x = m.linked u x && not (eqb x a || eqb x b)

-- computed over all relays
pub links : (m : Mesh) (u a b : ℕ) → any (other m u a b) 0 m.relays ≡ false → Links m u a b
unfolding other
links m u a b e x h l = by (ℕ_discrete x a) (ℕ_discrete x b)
  where
    by : Dec (x ≡ a) → Dec (x ≡ b) → (x ≡ a) ⊎ (x ≡ b)
    by (yes p) q = inl p
    by (no p) (yes q) = inr q
    by (no p) (no q) = absurd (true-false (simp (l, ne_eqb x a p, ne_eqb x b q)) (any_false (other m u a b) 0 m.relays e x (omega arith) (omega arith)))

-- a path that came from v stands at u, and goes over l to t
pub record At (m : Mesh) (v u t : ℕ) (l : List ℕ) : Type 0 where
  pub chain : Chain m u t l
  pub fresh : Fresh (v ∷ u ∷ l)

-- the first hop, by one of two links
pub first : {m : Mesh} {s t a b : ℕ} (l : List ℕ) → Chain m s t l → Fresh (s ∷ l) → s ≢ t → Links m s a b
    → ((r : List ℕ) × (l ≡ a ∷ r) × At m s a t r) ⊎ ((r : List ℕ) × (l ≡ b ∷ r) × At m s b t r)
first [] c f ne k = absurd (ne c)
first {m} {s} {t} (x ∷ l) c f ne k = ⊎_elim (λ e. inl (by e)) (λ e. inr (by e)) (k x c.0 c.1)
  where
    by : {y : ℕ} → x ≡ y → (r : List ℕ) × (x ∷ l ≡ y ∷ r) × At m s y t r
    by e = (l, ap (λ (z : ℕ). z ∷ l) e, subst (λ (z : ℕ). At m s z t l) e (record { chain = c.2; fresh = f }))

-- the next hop, by the link that the path did not come by
pub onward : {m : Mesh} {v u t w : ℕ} (l : List ℕ) → At m v u t l → u ≢ t → Links m u v w → (r : List ℕ) × (l ≡ w ∷ r) × At m u w t r
onward l a ne k = ⊎_elim (λ z. absurd (a.fresh.0 (inr (rw z.1 (inl refl))))) (λ z. z) (first l a.chain a.fresh.1 ne k)

-- a path's target stands on it
pub ends_in : (m : Mesh) (u t x : ℕ) (l : List ℕ) → Chain m u t (x ∷ l) → In t (x ∷ l)
ends_in m u t x [] c = inl (sym c.2)
ends_in m u t x (y ∷ l) c = inr (ends_in m x t y l c.2)

pub meets : (m : Mesh) (s t : ℕ) (l : List ℕ) → Chain m s t l → s ≢ t → In t l
meets m s t [] c ne = absurd (ne c)
meets m s t (x ∷ l) c ne = ends_in m s t x l c

-- and a path that has come to it ends there
pub arrived : {m : Mesh} {v t : ℕ} (l : List ℕ) → At m v t t l → l ≡ []
arrived [] a = refl
arrived {m} {v} {t} (x ∷ l) a = absurd (a.fresh.1.0 (ends_in m t t x l a.chain))
