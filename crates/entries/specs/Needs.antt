-- What `store` asks of its callers (`Fits`): the columns hold as many entries as are to be written, and the list has room for them.
-- Definitions; assumes nothing.
use Rattle.std.specs.Prelude.{ℕ, ◌≤◌}
use Rattle.entries.specs.Gathered.{MOST}
use Rattle.entries.specs.declared.gathered.Gathered.{Gathered}

pub record Fits (g : Gathered) (room : ℕ) : Type 0 where
  pub small : g.k ≤ MOST
  pub fits : g.k ≤ room
