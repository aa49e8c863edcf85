-- The search by halves (`place`), of any list; and of one that ascends it is the place of x: all before it are below x, and what stands there is not (`Placed`, `place-placed`).
-- Assumes nothing.
use Prim.Native.Nat.{ℕ, zero, suc, ◌+◌, ◌-◌, ◌/◌, ◌≤◌, ◌<◌}
use Rattle.std.specs.Prelude.{◌≡◌, Bool, List, ◌⊎◌, ltb, length}
use Rattle.std.proofs.Math.Path.{refl, sym, ap, ap₂, subst}
use Rattle.std.proofs.Common.{◌∙◌, inl, inr, ltb-true, ltb-false, lt-ltb, le-ltb}
use Rattle.std.proofs.Math.Bool.{true, false}
use native.Mathlib.Omega.{arith}
use Rattle.std.proofs.Math.ListN.{get_or}
use Rattle.scan.specs.Scan.{pick}
use Rattle.scan.specs.Laws.{true-or}

-- of `left` numbers from the place `from` on, in so many steps at most: the half in which the place of x is
unfoldable pub place_in : (steps : ℕ) (l : List ℕ) (from left x : ℕ) → ℕ
place_in zero l from left x = from
place_in (suc steps) l from zero x = from
place_in (suc steps) l from (suc left) x =
    pick (ltb (get_or l (from + suc left / 2) 0) x)
    (place_in steps l (from + suc left / 2 + 1) (suc left - suc left / 2 - 1) x)
    (place_in steps l from (suc left / 2) x)

unfoldable pub place : (l : List ℕ) (from left x : ℕ) → ℕ
place l from left x = place_in left l from left x

-- ---- step by step

module _ (l : List ℕ) (x : ℕ) where
  none_left : (steps from : ℕ) → place_in steps l from 0 x ≡ from
  unfolding place_in
  none_left zero from = refl
  none_left (suc steps) from = refl

  -- more steps than numbers change nothing
  steps-same : (a b from left : ℕ) → left ≤ a → left ≤ b → place_in a l from left x ≡ place_in b l from left x
  unfolding place_in
  steps-same zero b from left p q = let e : 0 ≡ left = omega arith in sym (none_left b from) ∙ ap (λ (k : ℕ). place_in b l from k x) e
  steps-same (suc a) b from zero p q = sym (none_left b from)
  steps-same (suc a) zero from (suc left) p q = absurd (omega arith)
  steps-same (suc a) (suc b) from (suc left) p q =
      ap₂ (pick (ltb (get_or l (from + suc left / 2) 0) x))
      (steps-same a b (from + suc left / 2 + 1) (suc left - suc left / 2 - 1) (omega arith) (omega arith))
      (steps-same a b from (suc left / 2) (omega arith) (omega arith))

  pub place_none : (from left : ℕ) → left ≤ 0 → place l from left x ≡ from
  unfolding place
  place_none from left h = ap (λ (n : ℕ). place_in n l from n x) (omega arith) ∙ none_left 0 from

  place-step : (from left : ℕ)
      → place l from (suc left) x
      ≡ pick (ltb (get_or l (from + suc left / 2) 0) x) (place l (from + suc left / 2 + 1) (suc left - suc left / 2 - 1) x) (place l from (suc left / 2) x)
  unfolding place place_in
  place-step from left =
      ap₂ (pick (ltb (get_or l (from + suc left / 2) 0) x))
      (steps-same left (suc left - suc left / 2 - 1) (from + suc left / 2 + 1) (suc left - suc left / 2 - 1) (omega arith) (omega arith))
      (steps-same left (suc left / 2) from (suc left / 2) (omega arith) (omega arith))

  pub place_high : (from left half : ℕ) → 0 < left → half ≡ left / 2 → get_or l (from + half) 0 < x → place l from left x ≡ place l (from + half + 1) (left - half - 1) x
  place_high from zero half h e g = absurd (omega arith)
  place_high from (suc left) half h e g =
      place-step from left
      ∙ ap (λ (b : Bool). pick b (place l (from + suc left / 2 + 1) (suc left - suc left / 2 - 1) x) (place l from (suc left / 2) x))
      (ap (λ (k : ℕ). ltb (get_or l (from + k) 0) x) (sym e) ∙ lt-ltb _ x g)
      ∙ ap (λ (k : ℕ). place l (from + k + 1) (suc left - k - 1) x) (sym e)

  pub place-low : (from left half : ℕ) → 0 < left → half ≡ left / 2 → x ≤ get_or l (from + half) 0 → place l from left x ≡ place l from half x
  place-low from zero half h e g = absurd (omega arith)
  place-low from (suc left) half h e g =
      place-step from left
      ∙ ap (λ (b : Bool). pick b (place l (from + suc left / 2 + 1) (suc left - suc left / 2 - 1) x) (place l from (suc left / 2) x))
      (ap (λ (k : ℕ). ltb (get_or l (from + k) 0) x) (sym e) ∙ le-ltb _ x g)
      ∙ ap (λ (k : ℕ). place l from k x) (sym e)

  lt-or-le : (i j : ℕ) → (i < j) ⊎ (j ≤ i)
  lt-or-le i j = go (true-or (ltb i j))
    where
      go : (ltb i j ≡ true) ⊎ (ltb i j ≡ false) → (i < j) ⊎ (j ≤ i)
      go (inl t) = inl (ltb-true i j t)
      go (inr f) = inr (ltb-false i j f)

  -- no further than the numbers looked at
  within_in : (steps from left : ℕ) → place_in steps l from left x ≤ from + left
  unfolding place_in
  within_in zero from left = omega arith
  within_in (suc steps) from zero = omega arith
  within_in (suc steps) from (suc left) =
      go (ltb (get_or l (from + suc left / 2) 0) x) (within_in steps (from + suc left / 2 + 1) (suc left - suc left / 2 - 1)) (within_in steps from (suc left / 2))
    where
      go : (b : Bool) → place_in steps l (from + suc left / 2 + 1) (suc left - suc left / 2 - 1) x ≤ from + suc left / 2 + 1 + (suc left - suc left / 2 - 1)
          → place_in steps l from (suc left / 2) x ≤ from + suc left / 2
          → pick b (place_in steps l (from + suc left / 2 + 1) (suc left - suc left / 2 - 1) x) (place_in steps l from (suc left / 2) x) ≤ from + suc left
      go true h g = omega arith
      go false h g = omega arith

  pub place_within : (n : ℕ) → place l 0 n x ≤ n
  unfolding place
  place_within n = omega (arith, within_in n 0 n)

  -- ---- numbers that ascend

  -- r is the place of x among the first n
  pub record Placed (n r : ℕ) : Type 0 where
    pub within : r ≤ n
    pub before : (j : ℕ) → j < r → get_or l j 0 < x
    pub after : r < n → x ≤ get_or l r 0

  module _ (n : ℕ) (up : (i j : ℕ) → i < j → j < n → get_or l i 0 < get_or l j 0) where
    -- what was found out of the first and the last numbers is kept in each step
    halves : (steps from left : ℕ) → left ≤ steps → from + left ≤ n → ((j : ℕ) → j < from → get_or l j 0 < x) → (from + left < n → x ≤ get_or l (from + left) 0)
        → Placed n (place_in steps l from left x)
    unfolding place_in
    halves zero from left s w b a = record { within = omega arith; before = b; after = λ h. subst (λ (k : ℕ). x ≤ get_or l k 0) (omega arith) (a (omega arith)) }
    halves (suc steps) from zero s w b a = record { within = omega arith; before = b; after = λ h. subst (λ (k : ℕ). x ≤ get_or l k 0) (omega arith) (a (omega arith)) }
    halves (suc steps) from (suc left) s w b a =
        go (true-or (ltb (get_or l (from + suc left / 2) 0) x))
        (λ t. halves steps (from + suc left / 2 + 1) (suc left - suc left / 2 - 1) (omega arith) (omega arith)
        (λ j h. below t j (lt-or-le j (from + suc left / 2)) h) (λ h. subst (λ (k : ℕ). x ≤ get_or l k 0) (omega arith) (a (omega arith))))
        (λ f. halves steps from (suc left / 2) (omega arith) (omega arith) b (λ h. f))
      where
        below : get_or l (from + suc left / 2) 0 < x → (j : ℕ) → (j < from + suc left / 2) ⊎ (from + suc left / 2 ≤ j) → j < from + suc left / 2 + 1 → get_or l j 0 < x
        below g j (inl c) d = omega (arith, up j (from + suc left / 2) c (omega arith))
        below g j (inr c) d = let e : from + suc left / 2 ≡ j = omega arith in subst (λ (k : ℕ). get_or l k 0 < x) e g

        go : (ltb (get_or l (from + suc left / 2) 0) x ≡ true) ⊎ (ltb (get_or l (from + suc left / 2) 0) x ≡ false)
            → (get_or l (from + suc left / 2) 0 < x → Placed n (place_in steps l (from + suc left / 2 + 1) (suc left - suc left / 2 - 1) x))
            → (x ≤ get_or l (from + suc left / 2) 0 → Placed n (place_in steps l from (suc left / 2) x))
            → Placed n (pick (ltb (get_or l (from + suc left / 2) 0) x)
            (place_in steps l (from + suc left / 2 + 1) (suc left - suc left / 2 - 1) x) (place_in steps l from (suc left / 2) x))
        go (inl t) high low = rw t (high (ltb-true _ x t))
        go (inr f) high low = rw f (low (ltb-false _ x f))

    pub place-placed : Placed n (place l 0 n x)
    unfolding place
    place-placed = halves n 0 n (omega arith) (omega arith) (λ j h. absurd (omega arith)) (λ h. absurd (omega arith))

-- ---- the loop

-- what is left of the search finds what the whole would
pub record Halving (l : List ℕ) (n x from left : ℕ) : Type 0 where
  pub within : from + left ≤ n
  pub room : n ≤ length l
  pub same : place l 0 n x ≡ place l from left x

pub halving_starts : (l : List ℕ) (n x : ℕ) → n ≤ length l → Halving l n x 0 n
halving_starts l n x h = record { within = omega arith; room = h; same = refl }

pub halving_high : {l : List ℕ} {n x from left : ℕ} → Halving l n x from left → 0 < left → get_or l (from + left / 2) 0 < x → Halving l n x (from + left / 2 + 1) (left - left / 2 - 1)
halving_high {l} {n} {x} {from} {left} v h g = record { within = omega (arith, v.within); room = v.room; same = v.same ∙ place_high l x from left (left / 2) h refl g }

pub halving_low : {l : List ℕ} {n x from left : ℕ} → Halving l n x from left → 0 < left → x ≤ get_or l (from + left / 2) 0 → Halving l n x from (left / 2)
halving_low {l} {n} {x} {from} {left} v h g = record { within = omega (arith, v.within); room = v.room; same = v.same ∙ place-low l x from left (left / 2) h refl g }

pub halving_ends : {l : List ℕ} {n x from left : ℕ} → Halving l n x from left → left ≤ 0 → from ≡ place l 0 n x
halving_ends {l} {n} {x} {from} {left} v h = sym (v.same ∙ place_none l x from left h)
