-- Paths as lists, and lists laid out in the lent slices. A path is the list of the relays after its source, in order.
-- Main result `laid-fan`: lists that are a fan are one where they are laid out. Assumes nothing.
use Rattle.std.specs.Prelude.{ℕ, zero, suc, ◌+◌, ◌-◌, ◌≤◌, ◌<◌, ◌≡◌, refl, true, ◌⊎◌, ◌≢◌, List, [], ◌∷◌, length, get_or}
use Rattle.std.proofs.Common.{sym, ap, ◌∙◌, subst, inl, inr, add-one, arith}
use Rattle.std.proofs.Math.Decide.{ℕ_discrete}
use Rattle.std.proofs.Math.ListN.{get_or-eq_default}
use Rattle.paths.specs.Mesh.{Mesh, width}
use Rattle.paths.specs.Fan.{filler, relay, hops, Path, Fan}

-- x stands in the list
abbrev pub In : ℕ → List ℕ → Type 0
In x [] = ⊥
In x (y ∷ l) = (x ≡ y) ⊎ In x l

-- no relay stands twice in the list
abbrev pub Fresh : List ℕ → Type 0
Fresh [] = Unit
Fresh (x ∷ l) = (In x l → ⊥) × Fresh l

-- from u over the relays of the list to t, along links
abbrev pub Chain : Mesh → ℕ → ℕ → List ℕ → Type 0
Chain m u t [] = u ≡ t
Chain m u t (v ∷ l) = (v < m.relays) × (m.linked u v ≡ true) × Chain m v t l

-- a path to each target, that meet nowhere but in s
pub record Lists (m : Mesh) (s : ℕ) (targets : List ℕ) (paths : ℕ → List ℕ) : Type 0 where
  pub chain : (i : ℕ) → i < length targets → Chain m s (get_or targets i 0) (paths i)
  pub short : (i : ℕ) → i < length targets → length (paths i) ≤ m.longest
  pub fresh : (i : ℕ) → i < length targets → Fresh (s ∷ paths i)
  pub apart : (i j : ℕ) → i < length targets → j < length targets → i ≢ j → (x : ℕ) → In x (paths i) → In x (paths j) → ⊥

-- k paths from s as they are written, each in w places
pub record Laid (w s k : ℕ) (paths : ℕ → List ℕ) (places counts : List ℕ) : Type 0 where
  pub at : (i p : ℕ) → i < k → p < w → relay w places i p ≡ get_or (s ∷ paths i) p filler
  pub count : (i : ℕ) → i < k → hops counts i ≡ length (paths i)

-- ---- the places of one list

-- n numbers from the place `from` on
unfoldable pub ahead : List ℕ → ℕ → ℕ → List ℕ
ahead l from zero = []
ahead l from (suc n) = get_or l from 0 ∷ ahead l (suc from) n

pub ahead-length : (l : List ℕ) (from n : ℕ) → length (ahead l from n) ≡ n
unfolding ahead
ahead-length l from zero = refl
ahead-length l from (suc n) = ap suc (ahead-length l (suc from) n)

pub ahead-at : (l : List ℕ) (from n d p : ℕ) → p < n → get_or (ahead l from n) p d ≡ get_or l (from + p) 0
unfolding ahead
ahead-at l from zero d p h = absurd (omega arith)
ahead-at l from (suc n) d zero h = ap (λ (i : ℕ). get_or l i 0) (omega arith)
ahead-at l from (suc n) d (suc p) h = ahead-at l (suc from) n d p (omega arith) ∙ ap (λ (i : ℕ). get_or l i 0) (omega arith)

pub ahead-cons : (l : List ℕ) (from n : ℕ) → 0 < n → ahead l from n ≡ get_or l from 0 ∷ ahead l (suc from) (n - 1)
unfolding ahead
ahead-cons l from zero h = absurd (omega arith)
ahead-cons l from (suc n) h = let less : n ≡ suc n - 1 = omega arith in ap (λ (k : ℕ). get_or l from 0 ∷ ahead l (suc from) k) less

pub in_at : (l : List ℕ) (d p : ℕ) → p < length l → In (get_or l p d) l
in_at [] d p h = absurd (omega arith)
in_at (x ∷ l) d zero h = inl refl
in_at (x ∷ l) d (suc p) h = inr (in_at l d p (omega arith))

-- no two places of a list with no repeats hold the same
pub fresh_at : (l : List ℕ) (d p q : ℕ) → Fresh l → p < length l → q < length l → get_or l p d ≡ get_or l q d → p ≡ q
fresh_at [] d p q f h g e = absurd (omega arith)
fresh_at (x ∷ l) d zero zero f h g e = refl
fresh_at (x ∷ l) d zero (suc q) f h g e = absurd (f.0 (subst (λ (y : ℕ). In y l) (sym e) (in_at l d q (omega arith))))
fresh_at (x ∷ l) d (suc p) zero f h g e = absurd (f.0 (subst (λ (y : ℕ). In y l) e (in_at l d p (omega arith))))
fresh_at (x ∷ l) d (suc p) (suc q) f h g e = ap suc (fresh_at l d p q f.1 (omega arith) (omega arith) e)

pub chain_at : (m : Mesh) (u t : ℕ) (l : List ℕ) (d p : ℕ) → Chain m u t l → p < length l
    → (get_or l p d < m.relays) × (m.linked (get_or (u ∷ l) p d) (get_or l p d) ≡ true)
chain_at m u t [] d p c h = absurd (omega arith)
chain_at m u t (v ∷ l) d zero c h = (c.0, c.1)
chain_at m u t (v ∷ l) d (suc p) c h = chain_at m v t l d p c.2 (omega arith)

pub chain_end : (m : Mesh) (u t : ℕ) (l : List ℕ) (d : ℕ) → Chain m u t l → get_or (u ∷ l) (length l) d ≡ t
chain_end m u t [] d c = c
chain_end m u t (v ∷ l) d c = chain_end m v t l d c.2

-- ---- the lists laid out

-- k paths along links, each to an end of its own
module _ (m : Mesh) (s k : ℕ) (end : ℕ → ℕ) (places counts : List ℕ) (paths : ℕ → List ℕ) (chain : (i : ℕ) → i < k → Chain m s (end i) (paths i))
    (short : (i : ℕ) → i < k → length (paths i) ≤ m.longest) (fresh : (i : ℕ) → i < k → Fresh (s ∷ paths i)) (a : Laid (width m) s k paths places counts) where
  abbrev place : ℕ → ℕ → ℕ
  place i p = relay (width m) places i p

  -- a place of a path, and one after its start
  pub placed_at : (i p : ℕ) → i < k → p ≤ hops counts i → relay (width m) places i p ≡ get_or (s ∷ paths i) p filler
  placed_at i p h g = a.at i p h (omega (arith, a.count i h, short i h))

  placed-after : (i p : ℕ) → i < k → p < hops counts i → place i (p + 1) ≡ get_or (paths i) p filler
  placed-after i p h g = placed_at i (p + 1) h (omega arith) ∙ rw (add-one p)

  pub placed-path : (i : ℕ) → i < k → Path m s (end i) places counts i
  placed-path i h = record {
    short = omega (arith, a.count i h, short i h);
    starts = placed_at i 0 h (omega arith);
    linked = λ p g.
        let c = chain_at m s (end i) (paths i) filler p (chain i h) (omega (arith, a.count i h)) in (
          subst (λ (y : ℕ). y < m.relays) (sym (placed-after i p h g)) c.0,
          ap (λ (y : ℕ). m.linked y (place i (p + 1))) (placed_at i p h (omega arith))
              ∙ ap (m.linked (get_or (s ∷ paths i) p filler)) (placed-after i p h g) ∙ c.1,
        );
    ends = placed_at i (hops counts i) h (omega arith) ∙ ap (λ (p : ℕ). get_or (s ∷ paths i) p filler) (a.count i h)
        ∙ chain_end m s (end i) (paths i) filler (chain i h);
    filled = λ p g r. a.at i p h (omega arith) ∙ get_or-eq_default (s ∷ paths i) filler {n = p} (omega (arith, a.count i h));
  }

  -- a relay after the start of a path stands in its list
  pub placed_in : (i p : ℕ) → i < k → suc p ≤ hops counts i → In (relay (width m) places i (suc p)) (paths i)
  placed_in i p h g =
      subst (λ (y : ℕ). In y (paths i)) (sym (placed_at i (suc p) h g)) (in_at (paths i) filler p (omega (arith, a.count i h)))

  pub placed_one : (i p q : ℕ) → i < k → p ≤ hops counts i → q ≤ hops counts i → relay (width m) places i p ≡ relay (width m) places i q → p ≡ q
  placed_one i p q h g r e =
      fresh_at (s ∷ paths i) filler p q (fresh i h) (omega (arith, a.count i h)) (omega (arith, a.count i h))
      (sym (placed_at i p h g) ∙ e ∙ placed_at i q h r)

module _ (m : Mesh) (s : ℕ) (targets places counts : List ℕ) (paths : ℕ → List ℕ) (f : Lists m s targets paths)
    (a : Laid (width m) s (length targets) paths places counts) where
  abbrev spot : ℕ → ℕ → ℕ
  spot i p = relay (width m) places i p

  start : (i : ℕ) → i < length targets → spot i 0 ≡ s
  start i h = placed_at m s (length targets) (λ j. get_or targets j 0) places counts paths f.chain f.short f.fresh a i 0 h (omega arith)

  pub laid_in : (i p : ℕ) → i < length targets → suc p ≤ hops counts i → In (relay (width m) places i (suc p)) (paths i)
  laid_in = placed_in m s (length targets) (λ j. get_or targets j 0) places counts paths f.chain f.short f.fresh a

  laid-two : (i j p q : ℕ) → i ≢ j → i < length targets → j < length targets → p ≤ hops counts i → q ≤ hops counts j
      → spot i p ≡ spot j q → (p ≡ 0) × (q ≡ 0)
  laid-two i j zero zero ne h g a b e = (refl, refl)
  laid-two i j zero (suc q) ne h g r b e =
      absurd ((f.fresh j g).0 (subst (λ (y : ℕ). In y (paths j)) (sym e ∙ start i h) (laid_in j q g b)))
  laid-two i j (suc p) zero ne h g r b e =
      absurd ((f.fresh i h).0 (subst (λ (y : ℕ). In y (paths i)) (e ∙ start j g) (laid_in i p h r)))
  laid-two i j (suc p) (suc q) ne h g r b e =
      absurd (f.apart i j h g ne (spot i (suc p)) (laid_in i p h r) (subst (λ (y : ℕ). In y (paths j)) (sym e) (laid_in j q g b)))

  pub laid-fan : Fan m s targets places counts
  laid-fan = record { path = placed-path m s (length targets) (λ j. get_or targets j 0) places counts paths f.chain f.short f.fresh a; apart = λ i j p q h g r b e. go i j p q h g r b e (ℕ_discrete i j) }
    where
      go : (i j p q : ℕ) → i < length targets → j < length targets → p ≤ hops counts i → q ≤ hops counts j → spot i p ≡ spot j q
          → Dec (i ≡ j) → ((i ≡ j) × (p ≡ q)) ⊎ ((p ≡ 0) × (q ≡ 0))
      go i j p q h g r b e (yes z) = inl (
        z,
        placed_one m s (length targets) (λ j. get_or targets j 0) places counts paths f.chain f.short f.fresh a i p q h r
            (subst (λ (y : ℕ). q ≤ hops counts y) (sym z) b) (e ∙ ap (λ (y : ℕ). spot y q) (sym z)),
      )
      go i j p q h g r b e (no ne) = inr (laid-two i j p q ne h g r b e)
