-- What came of the input (`Came`): so many bytes of the room for a line, and where the input has not ended a line end stands in them, or the room is full.
-- Assumes nothing.
use Rattle.std.specs.Prelude.{ℕ, ◌≤◌, ◌≡◌, Bool, true, false, ◌⊎◌, List, eqb, length, get_or}
use Rattle.scan.specs.Scan.{any}
use Rattle.line.specs.Text.{most_bytes}

-- a line end stands at a place
abbrev pub is_end : List ℕ → ℕ → Bool
is_end text i = eqb (get_or text i 0) 10

pub record Came (buf : List ℕ) (n : ℕ) (ended : Bool) : Type 0 where
  pub within : n ≤ length buf
  pub enough : ended ≡ false → (any (is_end buf) 0 n ≡ true) ⊎ (n ≡ most_bytes)

-- the same of the whole input, up to the room for it
pub record CameAll (buf : List ℕ) (n : ℕ) (ended : Bool) : Type 0 where
  pub within : n ≤ length buf
  pub all : ended ≡ false → n ≡ length buf
