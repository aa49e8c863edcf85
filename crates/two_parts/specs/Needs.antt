-- What the inner functions ask.
use Rattle.std.specs.Prelude.{ℕ, ◌≤◌, ◌<◌, ◌≡◌, true}
use Rattle.two_parts.specs.Two.{known, relays, slots, blocks}

-- nothing against source and target
pub record Fine (m s t : ℕ) : Type 0 where
  pub order : known m ≡ true
  pub source : s < relays m
  pub target : t < relays m

-- a block and a slot of a mesh of order at most 5
pub record Placed (m b p : ℕ) : Type 0 where
  pub order : m ≤ 5
  pub block : b < blocks m
  pub slot : p < slots m
