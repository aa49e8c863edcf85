-- What the inner functions ask of the slices: k paths that lie in the places, and columns with a place for each.
use Rattle.std.specs.Prelude.{ℕ, ◌≤◌, ◌<◌, List, length}
use Rattle.judge_rows.specs.Needs.{Held}

pub record Copied (k from to : ℕ) : Type 0 where
  pub there : k ≤ from
  pub room : k ≤ to

pub record Marked (w places : ℕ) (counts : List ℕ) (k out : ℕ) : Type 0 where
  pub held : (j : ℕ) → j < k → Held w places counts j
  pub room : k ≤ out

pub record Filled (w places : ℕ) (counts : List ℕ) (k ends hops wholes : ℕ) : Type 0 where
  pub held : (j : ℕ) → j < k → Held w places counts j
  pub counted : k ≤ length counts
  pub ends-room : k ≤ ends
  pub hops-room : k ≤ hops
  pub wholes_room : k ≤ wholes
