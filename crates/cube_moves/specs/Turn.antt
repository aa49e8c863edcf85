-- A set of rows gone through from its lowest: what a turn gives. Definitions; assumes nothing.
use Rattle.std.specs.Prelude.{ℕ, ◌≡◌, Option, Some, None}
use Rattle.bits.specs.Bit.{Lowest, flip}

-- of the rows x that are left a turn gives the lowest, and leaves y; where none is left it gives none
abbrev pub Turn : (x : ℕ) → Option ℕ → (y : ℕ) → Type 0
Turn x None y = x ≡ 0
Turn x (Some j) y = Lowest 64 x j × (y ≡ flip x j)
