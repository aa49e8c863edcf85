-- Counting by a list of the places. Assumes nothing.
--
-- `count-places`: a test that holds below n exactly at k different places f 0, .. f (k - 1) holds at k numbers below n.
use Rattle.std.specs.Prelude.{ℕ, zero, suc, ◌<◌, ◌≡◌, refl, Bool, true, false, ◌⊎◌, ◌≢◌, eqb}
use Rattle.std.proofs.Common.{sym, ap, ◌∙◌, inl, inr, arith, eqb-true, eq-eqb, ne_eqb}
use Rattle.std.proofs.Math.Decide.{ℕ_discrete}
use Rattle.scan.specs.Scan.{any, count}
use Rattle.scan.specs.Laws.{true-or, true-false, any-true, true-any, false-any, count-on, count_off, count_none, count_never}

-- tests that agree count the same
pub count_same : (p q : ℕ → Bool) (n : ℕ) → ((i : ℕ) → i < n → p i ≡ q i) → count p n ≡ count q n
count_same p q zero h = count_none p ∙ sym (count_none q)
count_same p q (suc n) h = go (true-or (q n)) (h n (omega arith)) (count_same p q n (λ i l. h i (omega arith)))
  where
    go : (q n ≡ true) ⊎ (q n ≡ false) → p n ≡ q n → count p n ≡ count q n → count p (suc n) ≡ count q (suc n)
    go (inl t) e r = count-on p n (e ∙ t) ∙ ap suc r ∙ sym (count-on q n t)
    go (inr f) e r = count_off p n (e ∙ f) ∙ r ∙ sym (count_off q n f)

-- a test that agrees with another but at x, where only the other holds, counts one less
pub count-one-more : (p q : ℕ → Bool) (n x : ℕ) → x < n → p x ≡ false → q x ≡ true → ((i : ℕ) → i < n → i ≢ x → p i ≡ q i) → count q n ≡ suc (count p n)
count-one-more p q zero x l f t h = absurd (omega arith)
count-one-more p q (suc n) x l f t h = go (ℕ_discrete n x) (λ m. count-one-more p q n x m f t (λ i k ne. h i (omega arith) ne)) (true-or (q n))
  where
    go : Dec (n ≡ x) → (x < n → count q n ≡ suc (count p n)) → (q n ≡ true) ⊎ (q n ≡ false) → count q (suc n) ≡ suc (count p (suc n))
    go (yes e) rest w =
        count-on q n (ap q e ∙ t)
        ∙ ap suc (sym (count_same p q n (λ i k. h i (omega arith) (λ z. omega arith))))
        ∙ sym (ap suc (count_off p n (ap p e ∙ f)))
    go (no ne) rest (inl a) = count-on q n a ∙ ap suc (rest (omega arith)) ∙ sym (ap suc (count-on p n (h n (omega arith) ne ∙ a)))
    go (no ne) rest (inr b) = count_off q n b ∙ rest (omega arith) ∙ sym (ap suc (count_off p n (h n (omega arith) ne ∙ b)))

-- whether i is one of the first k places
placed : (f : ℕ → ℕ) (k i : ℕ) → Bool
placed f k i = any (λ j. eqb (f j) i) 0 k

placed-true : (f : ℕ → ℕ) (k i j : ℕ) → j < k → f j ≡ i → placed f k i ≡ true
unfolding placed
placed-true f k i j l e = true-any (λ c. eqb (f c) i) 0 k j (omega arith) (omega arith) (eq-eqb (f j) i e)

placed-false : (f : ℕ → ℕ) (k i : ℕ) → ((j : ℕ) → j < k → f j ≢ i) → placed f k i ≡ false
unfolding placed
placed-false f k i h = false-any (λ c. eqb (f c) i) 0 k (λ j a b. ne_eqb (f j) i (h j (omega arith)))

placed_at : (f : ℕ → ℕ) (k i : ℕ) → placed f k i ≡ true → (j : ℕ) × (j < k) × (f j ≡ i)
unfolding placed
placed_at f k i e =
    let r = any-true (λ c. eqb (f c) i) 0 k e in
    (r.0, omega (arith, r.2), eqb-true (f r.0) i r.3)

-- one place more changes nothing elsewhere
placed_same : (f : ℕ → ℕ) (k i : ℕ) → i ≢ f k → placed f k i ≡ placed f (suc k) i
placed_same f k i ne = go (true-or (placed f k i))
  where
    go : (placed f k i ≡ true) ⊎ (placed f k i ≡ false) → placed f k i ≡ placed f (suc k) i
    go (inl t) = let r = placed_at f k i t in t ∙ sym (placed-true f (suc k) i r.0 (omega (arith, r.1)) r.2)
    go (inr b) = b ∙ sym (placed-false f (suc k) i (λ j l e. last j l e (ℕ_discrete j k)))
      where
        last : (j : ℕ) → j < suc k → f j ≡ i → Dec (j ≡ k) → ⊥
        last j l e (yes d) = ne (sym e ∙ ap f d)
        last j l e (no d) = true-false (placed-true f k i j (omega arith) e) b

count-placed : (f : ℕ → ℕ) (n k : ℕ) → ((j : ℕ) → j < k → f j < n) → ((i j : ℕ) → i < j → j < k → f i ≢ f j) → count (placed f k) n ≡ k
count-placed f n zero within apart = count_never (placed f 0) n (λ i l. placed-false f 0 i (λ j z. absurd (omega arith)))
count-placed f n (suc k) within apart =
    count-one-more (placed f k) (placed f (suc k)) n (f k) (within k (omega arith))
    (placed-false f k (f k) (λ j l. apart j k l (omega arith)))
    (placed-true f (suc k) (f k) k (omega arith) refl)
    (λ i l ne. placed_same f k i ne)
    ∙ ap suc (count-placed f n k (λ j l. within j (omega arith)) (λ i j a b. apart i j a (omega arith)))

-- k different places below n, and the test holds there and nowhere else
pub record Places (p : ℕ → Bool) (n k : ℕ) (f : ℕ → ℕ) : Type 0 where
  pub within : (j : ℕ) → j < k → f j < n
  pub apart : (i j : ℕ) → i < j → j < k → f i ≢ f j
  pub holds : (j : ℕ) → j < k → p (f j) ≡ true
  pub only : (i : ℕ) → i < n → p i ≡ true → (j : ℕ) × (j < k) × (f j ≡ i)

pub count-places : (p : ℕ → Bool) (n k : ℕ) (f : ℕ → ℕ) → Places p n k f → count p n ≡ k
count-places p n k f h = count_same p (placed f k) n (λ i l. agree i l (true-or (p i))) ∙ count-placed f n k h.within h.apart
  where
    agree : (i : ℕ) → i < n → (p i ≡ true) ⊎ (p i ≡ false) → p i ≡ placed f k i
    agree i l (inl t) = let r = h.only i l t in t ∙ sym (placed-true f k i r.0 r.1 r.2)
    agree i l (inr b) = b ∙ sym (placed-false f k i (λ j m e. true-false (sym (ap p e) ∙ h.holds j m) b))
