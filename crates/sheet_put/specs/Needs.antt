-- What the functions that write paths ask: few and short paths (`Headed`), each in its places (`Paths`). Assumes nothing.
use Rattle.std.specs.Prelude.{ℕ, ◌*◌, ◌≤◌, ◌<◌, List, length}
use Rattle.paths.specs.Fan.{hops}

-- few and short paths
pub record Headed (k : ℕ) (counts : List ℕ) : Type 0 where
  pub few : k ≤ 32
  pub counted : k ≤ length counts
  pub short : (i : ℕ) → i < k → hops counts i ≤ 206

-- and each in its w places
pub record Paths (w k places : ℕ) (counts : List ℕ) : Type 0 where
  pub headed : Headed k counts
  pub room : k * w ≤ places
  pub within : (i : ℕ) → i < k → hops counts i < w
