-- What a pair of a list of cuts says of two relays (`pair-two`), and what counts: a pair that is no link does not (`cut_no_link`), a relay that has stopped is
-- among those that count (`stop_counts`), and no more count than are listed (`fewer_count`). How cut links are counted stands in proofs/Cuts. Assumes nothing.
use Prim.Native.Nat.{ℕ, suc, ◌≤◌, ◌<◌}
use Rattle.std.specs.Prelude.{◌≡◌, Bool, ◌&&◌, ◌||◌, ◌⊎◌, eqb, ltb}
use Rattle.std.proofs.Math.Path.{refl, ap₂}
use Rattle.std.proofs.Common.{◌∙◌}
use Rattle.std.proofs.Math.Bool.{true, false}
use Rattle.std.proofs.Math.Logic.{inl, inr, ⊎_elim}
use mathlib.Core.List.{List, [], ◌∷◌}
use native.Mathlib.Omega.{arith}
use borrow.Author.Tests.{eqb-true, eq-eqb, ltb-true, lt-ltb}
use Rattle.scan.specs.Scan.{pick, has, different}
use Rattle.scan.specs.Laws.{true-or, true-false, not-true, both_true, either_true, first-true, second-true, has-cons, has_first, has_rest, has-none}
use Rattle.paths.specs.Mesh.{Mesh}
use Rattle.paths.specs.Whole.{pair, relays_of, link, links_of}

-- ---- two relays in either order

-- a, b are u, v, or v, u
abbrev pub Two : (a b u v : ℕ) → Type 0
Two a b u v = ((a ≡ u) × (b ≡ v)) ⊎ ((a ≡ v) × (b ≡ u))

both : {a b : Bool} → a ≡ true → b ≡ true → (a && b) ≡ true
both {a} {b} p q = ap₂ (λ (x y : Bool). x && y) p q

pub pair-two : (a b u v : ℕ) → pair a b u v ≡ true → Two a b u v
unfolding pair
pair-two a b u v e = ⊎_elim (λ z. inl (read u v z)) (λ z. inr (read v u z)) (either_true (eqb a u && eqb b v) (eqb a v && eqb b u) e)
  where
    read : (x y : ℕ) → (eqb a x && eqb b y) ≡ true → (a ≡ x) × (b ≡ y)
    read x y z = let r = both_true (eqb a x) (eqb b y) z in (eqb-true a x r.0, eqb-true b y r.1)

pub two-pair : (a b u v : ℕ) → Two a b u v → pair a b u v ≡ true
unfolding pair
two-pair a b u v (inl z) = first-true (eqb a u && eqb b v) (eqb a v && eqb b u) (both (eq-eqb a u z.0) (eq-eqb b v z.1))
two-pair a b u v (inr z) = second-true (eqb a u && eqb b v) (eqb a v && eqb b u) (both (eq-eqb a v z.0) (eq-eqb b u z.1))

module _ (m : Mesh) where
  -- ---- links of the mesh

  pub link-true : (a b : ℕ) → link m a b ≡ true → (a < m.relays) × (b < m.relays) × ((m.linked a b ≡ true) ⊎ (m.linked b a ≡ true))
  unfolding link
  link-true a b e =
      let p = both_true (ltb a m.relays) (ltb b m.relays && (m.linked a b || m.linked b a)) e in
      let q = both_true (ltb b m.relays) (m.linked a b || m.linked b a) p.1 in
      (ltb-true a m.relays p.0, ltb-true b m.relays q.0, either_true (m.linked a b) (m.linked b a) q.1)

  true-link : (a b : ℕ) → a < m.relays → b < m.relays → (m.linked a b || m.linked b a) ≡ true → link m a b ≡ true
  unfolding link
  true-link a b h g e = both (lt-ltb a m.relays h) (both (lt-ltb b m.relays g) e)

  pub linked-link : (a b : ℕ) → a < m.relays → b < m.relays → m.linked a b ≡ true → link m a b ≡ true
  linked-link a b h g e = true-link a b h g (first-true (m.linked a b) (m.linked b a) e)

  -- a link is one in either order
  link_back : (a b : ℕ) → link m a b ≡ true → link m b a ≡ true
  link_back a b e =
      let r = link-true a b e in
      true-link b a r.1 r.0 (⊎_elim (second-true (m.linked b a) (m.linked a b)) (first-true (m.linked b a) (m.linked a b)) r.2)

  pub link-two : (a b u v : ℕ) → Two a b u v → link m u v ≡ true → link m a b ≡ true
  link-two a b u v (inl z) e = ap₂ (link m) z.0 z.1 ∙ e
  link-two a b u v (inr z) e = ap₂ (link m) z.0 z.1 ∙ link_back u v e

  -- ---- what counts

  -- a pair that is no link counts nothing
  pub cut_no_link : (a b : ℕ) (cuts : List ℕ) → link m a b ≡ false → different (links_of m (a ∷ b ∷ cuts)) ≡ different (links_of m cuts)
  unfolding links_of
  cut_no_link a b cuts k = rw k refl

  -- a relay that has stopped is among those that count, and those that count have stopped
  pub stop_counts : (l : List ℕ) (x : ℕ) → has l x ≡ true → x < m.relays → has (relays_of m l) x ≡ true
  unfolding relays_of
  stop_counts [] x e h = absurd (true-false e (has-none x))
  stop_counts (y ∷ l) x e h = ⊎_elim here (λ z. there (ltb y m.relays) (stop_counts l x z h)) (has-cons y l x e)
    where
      there : (b : Bool) → has (relays_of m l) x ≡ true → has (pick b (y ∷ relays_of m l) (relays_of m l)) x ≡ true
      there true r = has_rest y (relays_of m l) x r
      there false r = r

      here : y ≡ x → has (pick (ltb y m.relays) (y ∷ relays_of m l) (relays_of m l)) x ≡ true
      here z = rw z (rw (lt-ltb x m.relays h) (has_first x (relays_of m l)))

  pub counts-stopped : (l : List ℕ) (x : ℕ) → has (relays_of m l) x ≡ true → has l x ≡ true
  unfolding relays_of
  counts-stopped [] x e = e
  counts-stopped (y ∷ l) x e = go (ltb y m.relays) e (counts-stopped l x)
    where
      go : (b : Bool) → has (pick b (y ∷ relays_of m l) (relays_of m l)) x ≡ true → (has (relays_of m l) x ≡ true → has l x ≡ true) → has (y ∷ l) x ≡ true
      go true z rest = ⊎_elim (λ q. rw q (has_first x l)) (λ q. has_rest y l x (rest q)) (has-cons y (relays_of m l) x z)
      go false z rest = has_rest y l x (rest z)

  -- no more count than there are different numbers
  pub fewer_count : (l : List ℕ) → different (relays_of m l) ≤ different l
  unfolding relays_of different
  fewer_count [] = omega arith
  fewer_count (x ∷ l) = go (true-or (ltb x m.relays)) (true-or (has l x)) (fewer_count l)
    where
      go : (ltb x m.relays ≡ true) ⊎ (ltb x m.relays ≡ false) → (has l x ≡ true) ⊎ (has l x ≡ false) → different (relays_of m l) ≤ different l
          → different (pick (ltb x m.relays) (x ∷ relays_of m l) (relays_of m l)) ≤ pick (has l x) (different l) (suc (different l))
      go (inl a) (inl b) r = rw a (rw b (rw (stop_counts l x b (ltb-true x m.relays a)) r))
      go (inl a) (inr b) r = rw a (rw b (rw (not-true (λ e. true-false (counts-stopped l x e) b)) (omega arith)))
      go (inr a) (inl b) r = rw a (rw b r)
      go (inr a) (inr b) r = rw a (rw b (omega arith))
