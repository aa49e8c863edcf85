-- Whether all targets stand in the source's block (`Home`). Assumes nothing.
use Rattle.std.specs.Prelude.{ℕ, ◌+◌, ◌≤◌, ◌<◌, ◌≡◌, refl, Bool, true, false, ◌≢◌, List, length, get_or}
use Rattle.std.proofs.Common.{arith}
use Rattle.std.proofs.Math.Decide.{ℕ_discrete}
use Rattle.two_parts.specs.Two.{block_of}
use Rattle.scan.specs.Laws.{true-false}

-- ---- the source's block

-- they do, or one of them does not
pub record Home (m source : ℕ) (targets : List ℕ) (r : Bool) : Type 0 where
  pub all : r ≡ true → (j : ℕ) → j < length targets → block_of m (get_or targets j 0) ≡ block_of m source
  pub some : r ≡ false → (j : ℕ) × (j < length targets) × (block_of m (get_or targets j 0) ≢ block_of m source)

-- the first i of them do
abbrev pub Homely : (m source : ℕ) (targets : List ℕ) (i : ℕ) → Type 0
Homely m source targets i = (j : ℕ) → j < i → block_of m (get_or targets j 0) ≡ block_of m source

pub homely_more : (m source : ℕ) (targets : List ℕ) (i : ℕ) → Homely m source targets i → block_of m (get_or targets i 0) ≡ block_of m source → Homely m source targets (i + 1)
homely_more m source targets i h e j l = by (ℕ_discrete j i)
  where
    by : Dec (j ≡ i) → block_of m (get_or targets j 0) ≡ block_of m source
    by (yes z) = rw z e
    by (no ne) = h j (omega arith)

pub home_all : (m source : ℕ) (targets : List ℕ) (i : ℕ) → length targets ≤ i → Homely m source targets i → Home m source targets true
home_all m source targets i le h = record { all = λ t j l. h j (omega arith); some = λ t. absurd (true-false refl t) }

pub home_some : (m source : ℕ) (targets : List ℕ) (i : ℕ) → i < length targets → block_of m (get_or targets i 0) ≢ block_of m source → Home m source targets false
home_some m source targets i lt ne = record { all = λ t. absurd (true-false t refl); some = λ t. (i, lt, ne) }
