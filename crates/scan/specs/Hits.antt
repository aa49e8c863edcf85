-- What a list of breakers can do, whatever they are. Main result `few-struck`: where each number of a list strikes one thing at most of the
-- first k, no more of them are struck than different numbers stand in the list. Assumes nothing.
use Rattle.std.specs.Prelude.{ℕ, suc, ◌+◌, ◌≤◌, ◌<◌, ◌≡◌, Bool, ◌⊎◌}
use Rattle.std.proofs.Math.Path.{refl, ap}
use Rattle.std.proofs.Common.{◌∙◌, arith}
use Rattle.std.proofs.Math.Bool.{true, false}
use Rattle.std.proofs.Math.Logic.{inl, inr, ⊎_elim}
use mathlib.Core.List.{List, [], ◌∷◌}
use Rattle.scan.specs.Scan.{pick, any, count, has, different}
use Rattle.scan.specs.Laws.{true-or, true-false, any-true, any_false, has-cons, has_first, has_rest, has-none, count_never, count_implied, count_but_one}

-- whether a number of the list strikes i
unfoldable pub struck : (hits : ℕ → ℕ → Bool) (l : List ℕ) (i : ℕ) → Bool
struck hits [] i = false
struck hits (b ∷ l) i = pick (hits b i) true (struck hits l i)

module _ (hits : ℕ → ℕ → Bool) where
  struck-cons : (b : ℕ) (l : List ℕ) (i : ℕ) → struck hits (b ∷ l) i ≡ true → (hits b i ≡ true) ⊎ (struck hits l i ≡ true)
  unfolding struck
  struck-cons b l i e = go (hits b i) refl e
    where
      go : (x : Bool) → hits b i ≡ x → pick x true (struck hits l i) ≡ true → (hits b i ≡ true) ⊎ (struck hits l i ≡ true)
      go true h e = inl h
      go false h e = inr e

  -- a number of the list that strikes i
  pub struck_by : (l : List ℕ) (i : ℕ) → struck hits l i ≡ true → (b : ℕ) × (has l b ≡ true) × (hits b i ≡ true)
  unfolding struck
  struck_by [] i e = absurd (true-false e refl)
  struck_by (b ∷ l) i e =
      ⊎_elim (λ h. (b, has_first b l, h)) (λ h. let r = struck_by l i h in (r.0, has_rest b l r.0 r.1, r.2)) (struck-cons b l i e)

  pub by_struck : (l : List ℕ) (i b : ℕ) → has l b ≡ true → hits b i ≡ true → struck hits l i ≡ true
  unfolding struck
  by_struck [] i b h e = absurd (true-false h (has-none b))
  by_struck (c ∷ l) i b h e =
      ⊎_elim (λ d. ap (λ (x : Bool). pick x true (struck hits l i)) (ap (λ (x : ℕ). hits x i) d ∙ e))
      (λ d. later (hits c i) (by_struck l i b d e)) (has-cons c l b h)
    where
      later : (x : Bool) → struck hits l i ≡ true → pick x true (struck hits l i) ≡ true
      later true r = refl
      later false r = r

  module _ (k : ℕ) where
    -- one number more strikes one thing more at most
    one_more : (b : ℕ) (l : List ℕ) → ((i j : ℕ) → i < k → j < k → hits b i ≡ true → hits b j ≡ true → i ≡ j)
        → count (struck hits (b ∷ l)) k ≤ count (struck hits l) k + 1
    one_more b l one = go (true-or (any (hits b) 0 k))
      where
        go : (any (hits b) 0 k ≡ true) ⊎ (any (hits b) 0 k ≡ false) → count (struck hits (b ∷ l)) k ≤ count (struck hits l) k + 1
        go (inl t) =
            let a = any-true (hits b) 0 k t in
            count_but_one (struck hits (b ∷ l)) (struck hits l) k a.0
            (λ i h ne e. ⊎_elim (λ r. absurd (ne (one i a.0 h (omega (arith, a.2)) r a.3))) (λ z. z) (struck-cons b l i e))
        go (inr n) =
            count_but_one (struck hits (b ∷ l)) (struck hits l) k 0
            (λ i h ne e. ⊎_elim (λ r. absurd (true-false r (any_false (hits b) 0 k n i (omega arith) (omega arith)))) (λ z. z) (struck-cons b l i e))

    pub few-struck : (l : List ℕ) → ((b i j : ℕ) → has l b ≡ true → i < k → j < k → hits b i ≡ true → hits b j ≡ true → i ≡ j)
        → count (struck hits l) k ≤ different l
    unfolding different struck
    few-struck [] one = omega (arith, count_never (struck hits []) k (λ i l. refl))
    few-struck (b ∷ l) one = go (true-or (has l b)) (few-struck l (λ c i j h. one c i j (has_rest b l c h)))
      where
        -- b stands in l already
        again : has l b ≡ true → (i : ℕ) → struck hits (b ∷ l) i ≡ true → struck hits l i ≡ true
        again t i e = ⊎_elim (λ h. by_struck l i b t h) (λ z. z) (struck-cons b l i e)

        go : (has l b ≡ true) ⊎ (has l b ≡ false) → count (struck hits l) k ≤ different l → count (struck hits (b ∷ l)) k ≤ pick (has l b) (different l) (suc (different l))
        go (inl t) r = rw t (omega (arith, count_implied (struck hits (b ∷ l)) (struck hits l) k (λ i a e. again t i e)))
        go (inr n) r = rw n (omega (arith, one_more b l (λ i j. one b i j (has_first b l))))
