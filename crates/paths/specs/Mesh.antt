-- A mesh: how many relays it has (they are the numbers below), how many links each of them has, the longest path in hops, and which
-- two relays are linked.
use Rattle.std.specs.Prelude.{ℕ, ◌+◌, Bool}

pub record Mesh : Type 0 where
  pub relays : ℕ
  pub links : ℕ
  pub longest : ℕ
  pub linked : ℕ → ℕ → Bool

-- the places that a path takes
abbrev pub width : Mesh → ℕ
width m = m.longest + 1
