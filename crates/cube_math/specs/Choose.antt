-- Sets of indices chosen by a rule (`choose`), of doors that they use (`gather`), unions and differences, as masks; with their counts.
-- Assumes nothing.
use Rattle.std.specs.Prelude.{ℕ, ◌+◌, ◌-◌, ◌≤◌, ◌≡◌, refl, ◌⊎◌, ◌≢◌}
use Rattle.std.proofs.Common.{sym, ap, ◌∙◌, subst, inl, inr, ⊎_elim, arith}
use Rattle.std.proofs.Math.Decide.{ℕ_discrete}
use Rattle.std.specs.Int.Bits.{bit_xor, bit_or}
use Rattle.std.specs.Int.Count.{ones}
use Rattle.bits.specs.Bit.{bit, flip}
use Rattle.bits.specs.Laws.{ones-set, bit-cases, bit-lt, bit-none, bit-or, clash, flip-same, flip-other, ones_clear, xor-zero-eq, same_or, flip-moves}
use Rattle.cube_math.specs.Paths.{off_on, bit-not-one}
use Rattle.cube_math.specs.Masks.{some-bit, mask_ind, ones_mono, ones-add, less, bit-less}
use Rattle.cube_math.specs.Single.{differs_bit}

-- the bits after one is cleared
pub cleared : (m j : ℕ) → bit j m ≡ 1 → (c : ℕ) → bit c (flip m j) ≡ 1 → (bit c m ≡ 1) × (c ≢ j)
cleared m j o c p =
    let ne : c ≢ j = λ e. clash (flip-same m j ∙ ap (λ (x : ℕ). 1 - x) o) (subst (λ (y : ℕ). bit y (flip m j) ≡ 1) e p) in
    (sym (flip-other m j c ne) ∙ p, ne)

-- ---- the members for which A holds

pub record Chosen (A B : ℕ → Type 0) (m r : ℕ) : Type 0 where
  pub sub : (j : ℕ) → bit j r ≡ 1 → bit j m ≡ 1
  pub holds : (j : ℕ) → bit j r ≡ 1 → A j
  pub fails : (j : ℕ) → bit j m ≡ 1 → bit j r ≡ 0 → B j

pub choose : (A B : ℕ → Type 0) → ((j : ℕ) → A j ⊎ B j) → (m : ℕ) → (r : ℕ) × Chosen A B m r
choose A B dec = mask_ind (λ (m : ℕ). (r : ℕ) × Chosen A B m r)
    (0, record { sub = λ j o. o; holds = λ j o. absurd (clash (bit-none j) o); fails = λ j o. absurd (clash (bit-none j) o) })
    (λ m j o ih. step m j o ih.0 ih.1 (dec j))
  where
    step : (m j : ℕ) → bit j m ≡ 1 → (r : ℕ) → Chosen A B (flip m j) r → A j ⊎ B j → (r : ℕ) × Chosen A B m r
    step m j o r h (inr b) = (
      r,
      record {
        sub = λ c p. (cleared m j o c (h.sub c p)).0;
        holds = h.holds;
        fails = λ c p z. ⊎_elim (λ e. subst B (sym e) b) (λ ne. h.fails c (flip-other m j c ne ∙ p) z) (same_or c j);
      },
    )
    step m j o r h (inl a) =
        let out : bit j r ≡ 0 = bit-not-one j r (λ p. (cleared m j o j (h.sub j p)).1 refl) in
        let back : (c : ℕ) → c ≢ j → bit c (flip r j) ≡ bit c r = λ c ne. flip-other r j c ne in (
          flip r j,
          record {
            sub = λ c p. ⊎_elim (λ e. subst (λ (y : ℕ). bit y m ≡ 1) (sym e) o) (λ ne. (cleared m j o c (h.sub c (sym (back c ne) ∙ p))).0) (same_or c j);
            holds = λ c p. ⊎_elim (λ e. subst A (sym e) a) (λ ne. h.holds c (sym (back c ne) ∙ p)) (same_or c j);
            fails = λ c p z. ⊎_elim
                (λ e. absurd (clash z (subst (λ (y : ℕ). bit y (flip r j) ≡ 1) (sym e) (flip-same r j ∙ ap (λ (x : ℕ). 1 - x) out))))
                (λ ne. h.fails c (flip-other m j c ne ∙ p) (sym (back c ne) ∙ z)) (same_or c j);
          },
        )

-- ---- the doors that the members use

pub record Used (R : ℕ → ℕ → Type 0) (m r : ℕ) : Type 0 where
  pub uses : (j : ℕ) → bit j m ≡ 1 → (i : ℕ) × R j i × (bit i r ≡ 1)
  pub from : (i : ℕ) → bit i r ≡ 1 → (j : ℕ) × (bit j m ≡ 1) × R j i
  pub few : ones r ≤ ones m

pub gather : (R : ℕ → ℕ → Type 0) (m : ℕ) → ((j : ℕ) → bit j m ≡ 1 → (i : ℕ) × R j i) → (r : ℕ) × Used R m r
gather R = mask_ind (λ (m : ℕ). ((j : ℕ) → bit j m ≡ 1 → (i : ℕ) × R j i) → (r : ℕ) × Used R m r)
    (λ g. (0, record { uses = λ j o. absurd (clash (bit-none j) o); from = λ i o. absurd (clash (bit-none i) o); few = omega arith }))
    (λ m j o ih g.
    let (r, h) = ih (λ c p. g c (cleared m j o c p).0) in
    step m j o r h (g j o) (bit-cases (g j o).0 r))
  where
    step : (m j : ℕ) → bit j m ≡ 1 → (r : ℕ) → Used R (flip m j) r → (x : (i : ℕ) × R j i) → (bit x.0 r ≡ 0) ⊎ (bit x.0 r ≡ 1) → (r : ℕ) × Used R m r
    step m j o r h x (inr p) = (
      r,
      record {
        uses = λ c q. ⊎_elim (λ e. subst (λ (y : ℕ). (i : ℕ) × R y i × (bit i r ≡ 1)) (sym e) (x.0, x.1, p)) (λ ne. h.uses c (flip-other m j c ne ∙ q)) (same_or c j);
        from = λ i q. ((h.from i q).0, (cleared m j o (h.from i q).0 (h.from i q).1).0, (h.from i q).2);
        few = omega (arith, h.few, ones_clear j m o);
      },
    )
    step m j o r h x (inl p) =
        let on : bit x.0 (flip r x.0) ≡ 1 = flip-same r x.0 ∙ ap (λ (y : ℕ). 1 - y) p in
        let keep : (i : ℕ) → bit i r ≡ 1 → bit i (flip r x.0) ≡ 1 = λ i q. flip-other r x.0 i (λ e. off_on x.0 i r p q (sym e)) ∙ q in (
          flip r x.0,
          record {
            uses = λ c q. ⊎_elim
                (λ e. subst (λ (y : ℕ). (i : ℕ) × R y i × (bit i (flip r x.0) ≡ 1)) (sym e) (x.0, x.1, on))
                (λ ne. let u = h.uses c (flip-other m j c ne ∙ q) in (u.0, u.1, keep u.0 u.2)) (same_or c j);
            from = λ i q. ⊎_elim
                (λ e. (j, o, subst (R j) (sym e) x.1))
                (λ ne. let u = h.from i (sym (flip-other r x.0 i ne) ∙ q) in (u.0, (cleared m j o u.0 u.1).0, u.2)) (same_or i x.0);
            few = omega (arith, h.few, ones_clear j m o, ones-set x.0 r p);
          },
        )

-- ---- is t a neighbour of s?

pub neighbour : (s t : ℕ) → ((i : ℕ) × (t ≡ flip s i)) ⊎ ((i : ℕ) → t ≢ flip s i)
neighbour s t = first (ℕ_discrete t s)
  where
    second : (i : ℕ) → bit i t ≢ bit i s → Dec (t ≡ flip s i) → ((i : ℕ) × (t ≡ flip s i)) ⊎ ((i : ℕ) → t ≢ flip s i)
    second i ne (yes e) = inl (i, e)
    second i ne (no z) = inr (λ c e. ⊎_elim (λ q. z (e ∙ ap (flip s) (sym q))) (λ q. ne (ap (bit i) e ∙ flip-other s c i q)) (same_or i c))

    first : Dec (t ≡ s) → ((i : ℕ) × (t ≡ flip s i)) ⊎ ((i : ℕ) → t ≢ flip s i)
    first (yes e) = inr (λ i p. flip-moves s i (sym p ∙ e))
    first (no ne) =
        let x = some-bit (bit_xor t s) (λ z. ne (xor-zero-eq t s z)) in
        second x.0 (differs_bit x.0 t s x.1) (ℕ_discrete t (flip s x.0))

-- ---- unions and differences

pub or-on : (i a b : ℕ) → bit i (bit_or a b) ≡ 1 → (bit i a ≡ 1) ⊎ (bit i b ≡ 1)
or-on i a b o = ⊎_elim (λ (z : bit i a ≡ 0). inr (omega (arith, bit-or i a b, bit-lt i b))) inl (bit-cases i a)

pub or_left : (i a b : ℕ) → bit i a ≡ 1 → bit i (bit_or a b) ≡ 1
or_left i a b o = omega (arith, bit-or i a b, bit-lt i b)

pub or_right : (i a b : ℕ) → bit i b ≡ 1 → bit i (bit_or a b) ≡ 1
or_right i a b o = omega (arith, bit-or i a b, bit-lt i a)

-- a part and the rest
pub ones-less : (m r : ℕ) → ((j : ℕ) → bit j r ≡ 1 → bit j m ≡ 1) → ones m ≡ ones r + ones (less m r)
ones-less m r sub = ones-add m r (less m r) (λ i. ⊎_elim
    (λ (z : bit i r ≡ 0). omega (arith, bit-less i m r))
    (λ (o : bit i r ≡ 1). omega (arith, bit-less i m r, sub i o)) (bit-cases i r))

pub less-on : (j m r : ℕ) → bit j (less m r) ≡ 1 → (bit j m ≡ 1) × (bit j r ≡ 0)
less-on j m r o = (omega (arith, bit-less j m r, bit-lt j m), omega (arith, bit-less j m r, bit-lt j m))

pub less-or : (j m r : ℕ) → bit j m ≡ 1 → (bit j r ≡ 1) ⊎ (bit j (less m r) ≡ 1)
less-or j m r o = ⊎_elim (λ (z : bit j r ≡ 0). inr (omega (arith, bit-less j m r))) inl (bit-cases j r)

-- a union has at most as many members as its parts together
pub ones-or : (a b : ℕ) → ones (bit_or a b) ≤ ones a + ones b
ones-or a b =
    let part : ones (less (bit_or a b) a) ≤ ones b = ones_mono (less (bit_or a b) a) b (λ i o.
    let p = less-on i (bit_or a b) a o in
    ⊎_elim (λ z. absurd (clash p.1 z)) (λ z. z) (or-on i a b p.0)) in
    omega (arith, ones-less (bit_or a b) a (λ j o. or_left j a b o))

pub ones-some : (m j : ℕ) → bit j m ≡ 1 → 1 ≤ ones m
ones-some m j o = omega (arith, ones_clear j m o)
