-- What the search of all paths asks of its callers (`Lent`): rules that there are, and places and counts for each path.
-- Definitions; assumes nothing.
use Rattle.std.specs.Prelude.{ℕ, ◌*◌, ◌≤◌}
use Rattle.judge_rows.specs.Needs.{Ruled}
use Rattle.judge_rows.specs.declared.Rules.{Rules}

-- k paths have their places and counts
pub record Lent (r : Rules) (k places counts : ℕ) : Type 0 where
  pub ruled : Ruled r
  pub room : k * r.width ≤ places
  pub counted : k ≤ counts
