-- Arrays filled index by index: each value below n has its property, and the rest is 0 (`Filled`). Assumes nothing.
use Rattle.std.specs.Prelude.{ℕ, zero, suc, ◌+◌, ◌%◌, ◌≤◌, ◌<◌, ◌≡◌, refl, Bool, true, false, List, [], ◌∷◌, length, set}
use Rattle.std.proofs.Common.{sym, ◌∙◌, subst, mod-lt, arith, length-set, get_or-set_same, get_or-set_other}
use Rattle.std.proofs.Math.Decide.{ℕ_discrete}
use Rattle.cube_math.specs.Masks.{at}
use Rattle.scan.specs.Laws.{true-false}

-- a new array holds 0
unfoldable pub all_zero : List ℕ → Bool
all_zero [] = true
all_zero (zero ∷ l) = all_zero l
all_zero (suc x ∷ l) = false

zero-at : (l : List ℕ) → all_zero l ≡ true → (j : ℕ) → at l j ≡ 0
unfolding all_zero
zero-at [] e j = refl
zero-at (zero ∷ l) e zero = refl
zero-at (zero ∷ l) e (suc j) = zero-at l e j
zero-at (suc x ∷ l) e j = absurd (true-false e refl)

pub record Filled (size n : ℕ) (P : ℕ → ℕ → Type 0) (r : List ℕ) : Type 0 where
  pub long : length r ≡ size
  pub each : (j : ℕ) → j < n → P j (at r j)
  pub rest : (j : ℕ) → n ≤ j → at r j ≡ 0

-- none, one more, all
pub filled_none : (size : ℕ) (P : ℕ → ℕ → Type 0) (r : List ℕ) → length r ≡ size → all_zero r ≡ true → Filled size 0 P r
filled_none size P r e z = record { long = e; each = λ j h. absurd (omega arith); rest = λ j h. zero-at r z j }

pub filled_more : {size n : ℕ} {P : ℕ → ℕ → Type 0} {r : List ℕ} (v : ℕ) → Filled size n P r → n < size → P n v → Filled size (n + 1) P (set r n v)
filled_more {size} {n} {P} {r} v f h p = record {
  long = length-set r n v ∙ f.long;
  each = λ j l. by j l (ℕ_discrete j n);
  rest = λ j l. get_or-set_other r n j v 0 (λ z. omega arith) ∙ f.rest j (omega arith);
}
  where
    by : (j : ℕ) → j < n + 1 → Dec (j ≡ n) → P j (at (set r n v) j)
    by j l (yes z) = rw z (subst (P n) (sym (get_or-set_same r n v 0 (omega (arith, f.long)))) p)
    by j l (no ne) = subst (P j) (sym (get_or-set_other r n j v 0 ne)) (f.each j (omega arith))

pub filled_all : {size n k : ℕ} {P : ℕ → ℕ → Type 0} {r : List ℕ} → n ≡ k → Filled size n P r → Filled size k P r
filled_all {size} {n} {k} {P} {r} e f = subst (λ (y : ℕ). Filled size y P r) e f

-- a remainder by a block's size is small
pub small_rest : (x size : ℕ) → 0 < size → size ≤ 32 → x % size < 4294967296
small_rest x size pos h = omega (arith, mod-lt x pos)
