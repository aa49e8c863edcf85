-- Where the paths of a grid stand on a slot: what the search over the rows keeps. Assumes nothing.
use Rattle.std.specs.Prelude.{ℕ, suc, ◌+◌, ◌-◌, ◌≤◌, ◌<◌, ◌≡◌, ◌≢◌, List, [], ◌∷◌, Option, Some, None, MatchOption, EachIndex, slice_index, length, get_or}
use Rattle.std.proofs.Common.{sym, ap, ◌∙◌, inl, inr, arith, below_more}
use Rattle.cube_math.specs.Doors.{In}
use Rattle.two_write.specs.Row.{hops}
use Rattle.two_round.specs.declared.Cut.{Cut}

-- ---- one path

-- the path stands on x at a place, or nowhere
abbrev pub Stands : (l : List ℕ) (x : ℕ) → Option ℕ → Type 0
Stands l x o = MatchOption o (EachIndex l (λ k. slice_index l k ≢ x)) (λ i. (i < length l) × (slice_index l i ≡ x))

-- not in the first i hops
pub record Looking (l : List ℕ) (x i : ℕ) : Type 0 where
  pub bound : i ≤ length l
  pub unmet : (j : ℕ) → j < i → get_or l j 0 ≢ x

-- none, one more; and what the path then does
pub looking_none : (l : List ℕ) (x : ℕ) → Looking l x 0
looking_none l x = record { bound = omega arith; unmet = λ j h. absurd (omega arith) }

pub looking_more : {l : List ℕ} {x i : ℕ} (v : ℕ) → Looking l x i → i < length l → v ≡ get_or l i 0 → v ≢ x → Looking l x (i + 1)
looking_more {l} {x} {i} v k h e ne = record { bound = omega arith; unmet = below_more _ _ k.unmet (λ z. ne (e ∙ z)) }

pub stands_on : {x : ℕ} (l : List ℕ) (v i : ℕ) → i < length l → v ≡ get_or l i 0 → v ≡ x → Stands l x (Some i)
stands_on l v i h e is = (h, sym e ∙ is)

pub stands_never : {l : List ℕ} {x i : ℕ} → Looking l x i → length l ≤ i → Stands l x None
stands_never k h = λ j l. k.unmet j (omega arith)

pub never : {x : ℕ} (l : List ℕ) → EachIndex l (λ k. slice_index l k ≢ x) → In x l → ⊥
never [] f w = w
never (y ∷ l) f (inl e) = f 0 (omega arith) (sym e)
never (y ∷ l) f (inr w) = never l (λ k h. f (suc k) (omega arith)) w

-- ---- the first m paths

-- the row that is cut, and after how many hops
abbrev pub row_of : ℕ → Option Cut → ℕ
row_of m None = m
row_of m (Some c) = c.row

abbrev pub hops_of : Option Cut → ℕ
hops_of None = 0
hops_of (Some c) = c.hops

-- the path of the row stands on x after n hops; m: none does
pub record Found (m : ℕ) (g : List ℕ) (x row n : ℕ) : Type 0 where
  pub within : row ≤ m
  pub on : row < m → (1 ≤ n) × (n ≤ length (hops g row)) × (get_or (hops g row) (n - 1) 0 ≡ x)
  pub none : row ≡ m → (j : ℕ) → j < m → In x (hops g j) → ⊥

-- not in the first i rows
pub record Passed (m : ℕ) (g : List ℕ) (x i : ℕ) : Type 0 where
  pub bound : i ≤ m
  pub none : (j : ℕ) → j < i → In x (hops g j) → ⊥

pub passed_none : (m : ℕ) (g : List ℕ) (x : ℕ) → Passed m g x 0
passed_none m g x = record { bound = omega arith; none = λ j h. absurd (omega arith) }

pub passed_more : {m : ℕ} {g : List ℕ} {x i : ℕ} → Passed m g x i → i < m → (In x (hops g i) → ⊥) → Passed m g x (i + 1)
passed_more {m} {g} {x} {i} p h no_more = record { bound = omega arith; none = below_more _ _ p.none no_more }

pub found-on : {m : ℕ} {g : List ℕ} {x row : ℕ} (i : ℕ) → row < m → i < length (hops g row) → get_or (hops g row) i 0 ≡ x → Found m g x row (i + 1)
found-on {m} {g} {x} {row} i h lt e = record {
  within = omega arith;
  on = λ l. (omega arith, omega arith, ap (λ (y : ℕ). get_or (hops g row) y 0) back ∙ e);
  none = λ z. absurd (omega arith);
}
  where
    back : i + 1 - 1 ≡ i
    back = omega arith

pub found_none : {m : ℕ} {g : List ℕ} {x i : ℕ} → Passed m g x i → m ≤ i → Found m g x m 0
found_none {m} {g} {x} {i} p h = record { within = omega arith; on = λ l. absurd (omega arith); none = λ e j l. p.none j (omega arith) }
