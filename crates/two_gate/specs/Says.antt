-- What the search for a gate slot promises: what may be asked (`Search`), what another target denies of a slot (`Denied`), and that a slot serves
-- (`Serves`). A candidate that nobody denies serves (`serves`), and one of them does (`some_serves`). Assumes nothing.
use Rattle.std.specs.Prelude.{ℕ, suc, ◌+◌, ◌^◌, ◌≤◌, ◌<◌, ◌≡◌, refl, ◌⊎◌, ◌≢◌, List, Bool, true, false, not, get_or, eqb}
use Rattle.std.proofs.Common.{sym, subst, inl, inr, ⊎_elim, arith, pow_mono, eqb-true}
use Rattle.std.proofs.lemmas.Bool.{eqb-false}
use Rattle.bits.specs.Bit.{bit, flip}
use Rattle.bits.specs.Laws.{lt-or, flip-lt}
use Rattle.two_math.specs.Gates.{Denies, Passes, Near, Gates, cand, cand-near, passes_when, passes_then, gate-found}

-- r says whether A
pub record Tells (A : Type 0) (r : Bool) : Type 0 where
  pub so : r ≡ true → A
  pub not : r ≡ false → A → ⊥

-- what a target at (bi, pi) denies of the gate slot q of a target in bj; if it is done, its gate slot is qi
abbrev pub Denied : (s0 bj q bi pi : ℕ) (done : Bool) (qi : ℕ) → Type 0
Denied s0 bj q bi pi done qi =
    (flip bj q ≡ bi) ⊎ (((bi ≡ bj) × (q ≡ pi)) ⊎ (((bi ≡ s0) × (flip bj q ≡ flip s0 pi)) ⊎ ((done ≡ true) × (flip bj q ≡ flip bi qi))))

-- what may be asked: the targets, and gates for those of `done`
pub record Search (m s0 k : ℕ) (blocks slots : List ℕ) (done : ℕ) (gates : List ℕ) (j : ℕ) : Type 0 where
  pub order : m ≤ 5
  pub few : k ≤ m + 1
  pub slot : (i : ℕ) → get_or slots i 0 < 2 ^ m
  pub gate : (i : ℕ) → get_or gates i 0 < 2 ^ m
  pub differ : (a b : ℕ) → a < k → b < k → a ≢ b → get_or blocks a 0 ≡ get_or blocks b 0 → get_or slots a 0 ≢ get_or slots b 0
  pub before : Gates m s0 k (λ i. get_or blocks i 0) (λ i. get_or slots i 0) done (λ i. get_or gates i 0)
  pub lt : j < k
  pub outer : get_or blocks j 0 ≢ s0

pub never : (b : Bool) → b ≡ true → b ≡ false → ⊥
never b p q = let z : ◌≡◌ {A = ℕ} 0 1 = cc in omega arith

pub tells_no : {A : Type 0} → (A → ⊥) → Tells A false
tells_no n = record { so = λ e. absurd (never false e refl); not = λ e. n }

pub tells_yes : {A : Type 0} → A → Tells A true
tells_yes a = record { so = λ e. a; not = λ e. absurd (never true refl e) }

-- a test of two numbers tells it
pub tells-same : {A : Type 0} (x y : ℕ) → (x ≡ y → A) → (A → x ≡ y) → Tells A (eqb x y)
tells-same x y f g = record { so = λ e. f (eqb-true x y e); not = λ e a. eqb-false x y e (g a) }

pub tells_differ : {A : Type 0} (x y : ℕ) → (x ≢ y → A) → (x ≡ y → A → ⊥) → Tells A (not (eqb x y))
tells_differ {A} x y f g = by (eqb x y) (eqb-true x y) (eqb-false x y)
  where
    by : (b : Bool) → (b ≡ true → x ≡ y) → (b ≡ false → x ≢ y) → Tells A (not b)
    by true t e = tells_no (g (t refl))
    by false t e = tells_yes (f (e refl))

-- r decides A for each of the targets below n
abbrev pub None : (A : ℕ → Type 0) → ℕ → Type 0
None A n = (i : ℕ) → i < n → A i → ⊥

pub none_more : (A : ℕ → Type 0) (n : ℕ) → None A n → (A n → ⊥) → None A (n + 1)
none_more A n h g i l a = ⊎_elim (λ q. h i q a) (λ r. ⊎_elim (λ e. g (subst A e a)) (λ q. absurd (omega arith)) r) (lt-or i n)

-- the last case, where none of those before it is so
pub denied_last : (s0 bj q bi pi : ℕ) (done : Bool) (qi : ℕ) → flip bj q ≢ bi → ((bi ≡ bj) × (q ≡ pi) → ⊥) → ((bi ≡ s0) × (flip bj q ≡ flip s0 pi) → ⊥)
    → Denied s0 bj q bi pi done qi → (done ≡ true) × (flip bj q ≡ flip bi qi)
denied_last s0 bj q bi pi done qi a b c (inl z) = absurd (a z)
denied_last s0 bj q bi pi done qi a b c (inr (inl z)) = absurd (b z)
denied_last s0 bj q bi pi done qi a b c (inr (inr (inl z))) = absurd (c z)
denied_last s0 bj q bi pi done qi a b c (inr (inr (inr z))) = z

abbrev pub Small : List ℕ → Type 0
Small l = (i : ℕ) → get_or l i 0 < 64

-- the target i is another, and denies q
abbrev pub Other : (s0 : ℕ) (blocks slots gates : List ℕ) (done j q i : ℕ) → Type 0
Other s0 blocks slots gates done j q i =
    (i ≢ j) × Denied s0 (get_or blocks j 0) q (get_or blocks i 0) (get_or slots i 0) (eqb (bit i done) 1) (get_or gates i 0)

-- the slot r serves
abbrev pub Serves : (m s0 k : ℕ) (blocks slots : List ℕ) (done : ℕ) (gates : List ℕ) (j r : ℕ) → Type 0
Serves m s0 k blocks slots done gates j r = Passes m s0 k (λ i. get_or blocks i 0) (λ i. get_or slots i 0) done (λ i. get_or gates i 0) j r

module _ (m s0 k : ℕ) (blocks slots : List ℕ) (done : ℕ) (gates : List ℕ) (j : ℕ) where
  to_denies : (i q : ℕ) → Denied s0 (get_or blocks j 0) q (get_or blocks i 0) (get_or slots i 0) (eqb (bit i done) 1) (get_or gates i 0)
      → Denies m s0 k (λ i. get_or blocks i 0) (λ i. get_or slots i 0) done (λ i. get_or gates i 0) j i q
  to_denies i q (inl a) = inl a
  to_denies i q (inr (inl a)) = inr (inl a)
  to_denies i q (inr (inr (inl a))) = inr (inr (inl a))
  to_denies i q (inr (inr (inr a))) = inr (inr (inr (eqb-true (bit i done) 1 a.0, a.1)))

  of_denies : (i q : ℕ) → Denies m s0 k (λ i. get_or blocks i 0) (λ i. get_or slots i 0) done (λ i. get_or gates i 0) j i q
      → Denied s0 (get_or blocks j 0) q (get_or blocks i 0) (get_or slots i 0) (eqb (bit i done) 1) (get_or gates i 0)
  of_denies i q (inl a) = inl a
  of_denies i q (inr (inl a)) = inr (inl a)
  of_denies i q (inr (inr (inl a))) = inr (inr (inl a))
  of_denies i q (inr (inr (inr a))) = inr (inr (inr (eqb_of (bit i done) a.0, a.1)))
    where
      eqb_of : (x : ℕ) → x ≡ 1 → eqb x 1 ≡ true
      eqb_of x e = rw e

  pub serves : (q : ℕ) → Search m s0 k blocks slots done gates j → Near m (get_or slots j 0) q → None (Other s0 blocks slots gates done j q) k → Serves m s0 k blocks slots done gates j q
  serves q s near none = passes_when m s0 k (λ i. get_or blocks i 0) (λ i. get_or slots i 0) done (λ i. get_or gates i 0) j q s.outer near (λ i h ne d. none i h (ne, of_denies i q d))

  -- one of the candidates serves
  pub some_serves : Search m s0 k blocks slots done gates j → None (λ c. None (Other s0 blocks slots gates done j (cand m (get_or slots j 0) c)) k) (suc m) → ⊥
  some_serves s none =
      let f = gate-found m s0 k (λ i. get_or blocks i 0) (λ i. get_or slots i 0) done (λ i. get_or gates i 0) s.few s.differ s.before j s.lt s.outer in
      none f.0 f.1 (λ i h d. passes_then m s0 k (λ i. get_or blocks i 0) (λ i. get_or slots i 0) done (λ i. get_or gates i 0) j (cand m (get_or slots j 0) f.0) f.2 i h d.0 (to_denies i (cand m (get_or slots j 0) f.0) d.1))

-- of another target, told by what it denies
pub tells-other : (s0 : ℕ) (blocks slots gates : List ℕ) (done j q i : ℕ) (b r : Bool) → b ≡ eqb (bit i done) 1 → i ≢ j
    → Tells (Denied s0 (get_or blocks j 0) q (get_or blocks i 0) (get_or slots i 0) b (get_or gates i 0)) r → Tells (Other s0 blocks slots gates done j q i) r
tells-other s0 blocks slots gates done j q i b r e ne t = by (subst (λ (y : Bool). Tells (Denied s0 (get_or blocks j 0) q (get_or blocks i 0) (get_or slots i 0) y (get_or gates i 0)) r) e t)
  where
    by : Tells (Denied s0 (get_or blocks j 0) q (get_or blocks i 0) (get_or slots i 0) (eqb (bit i done) 1) (get_or gates i 0)) r → Tells (Other s0 blocks slots gates done j q i) r
    by t = record { so = λ z. (ne, t.so z); not = λ z d. t.not z d.1 }

pub small : (m x : ℕ) → m ≤ 5 → x < 2 ^ m → x < 64
small m x h g = omega (arith, pow_mono {i = m} {j = 5} h)

pub cand_small : (m p c : ℕ) → m ≤ 5 → p < 2 ^ m → c < suc m → cand m p c < 64
cand_small m p c h g l = small m (cand m p c) h (by (cand-near m p c l))
  where
    by : Near m p (cand m p c) → cand m p c < 2 ^ m
    by (inl e) = subst (λ (y : ℕ). y < 2 ^ m) (sym e) g
    by (inr e) = subst (λ (y : ℕ). y < 2 ^ m) (sym e.2) (flip-lt m p e.0 g e.1)
