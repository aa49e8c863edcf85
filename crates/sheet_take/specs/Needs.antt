-- What taking paths out of a sheet asks: they were looked through, and there is room for them (`Taken`); and what taking their zones asks (`Zoned`).
-- Assumes nothing.
use Rattle.std.specs.Prelude.{ℕ, ◌+◌, ◌*◌, ◌≤◌, ◌≡◌, List}
use Rattle.std.proofs.Math.Option.{none}
use Rattle.sheet.specs.Format.{HEAD}
use Rattle.sheet_take.specs.Says.{looked}

-- k paths were looked through, and there is room for them
pub record Taken (v : ℕ) (l : List ℕ) (longest k places counts targets : ℕ) : Type 0 where
  pub sound : looked v longest l HEAD 0 k ≡ none
  pub small : longest ≤ 206
  pub room : k * (longest + 1) ≤ places
  pub counted : k ≤ counts
  pub aimed : k ≤ targets

-- k paths were looked through, and there is room for their zones
pub record Zoned (v : ℕ) (l : List ℕ) (k zones : ℕ) : Type 0 where
  pub longest : ℕ
  pub sound : looked v longest l HEAD 0 k ≡ none
  pub small : longest ≤ 206
  pub room : k ≤ zones
