-- A run of numbers i, i + 1, .. searched by a test: the first at which it holds (`seek`), whether there is one (`any`), and at
-- how many of the numbers below n it holds (`count`). What stands in a list, by a test: `among`, `has`; how many different numbers
-- stand in it: `different`.
use Rattle.std.specs.Prelude.{ℕ, zero, suc, Bool, true, false, List, [], ◌∷◌, Option, Some, None, eqb, length, get_or}

-- where a test first holds
pub data Spot : Type 0 where
  nowhere : Spot
  at : ℕ → Spot

-- what the code's answer says
abbrev pub spot_of : Option ℕ → Spot
spot_of (Some j) = at j
spot_of None = nowhere

abbrev pub pick : {A : Type 0} → Bool → A → A → A
pick true a b = a
pick false a b = b

abbrev pub found : Spot → Bool
found nowhere = false
found (at i) = true

-- the first of the n numbers from i on at which the test holds
unfoldable pub seek : (ℕ → Bool) → ℕ → ℕ → Spot
seek test i zero = nowhere
seek test i (suc n) = let rest = seek test (suc i) n in pick (test i) (at i) rest

-- whether the test holds at one of the n numbers from i on
unfoldable pub any : (ℕ → Bool) → ℕ → ℕ → Bool
any test i n = found (seek test i n)

-- at how many of the numbers below n the test holds
unfoldable pub count : (ℕ → Bool) → ℕ → ℕ
count test zero = zero
count test (suc n) = pick (test n) (suc (count test n)) (count test n)

-- whether x stands in the list at one of the n places from i on
unfoldable pub among : List ℕ → ℕ → ℕ → ℕ → Bool
among l i n x = any (λ j. eqb (get_or l j 0) x) i n

-- whether x stands in the list
unfoldable pub has : List ℕ → ℕ → Bool
has l x = among l 0 (length l) x

-- how many different numbers stand in the list
unfoldable pub different : List ℕ → ℕ
different [] = zero
different (x ∷ l) = pick (has l x) (different l) (suc (different l))
