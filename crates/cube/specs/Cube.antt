-- The cube of n dimensions: relays are the numbers below 2 ^ n, and two are linked when they differ in exactly one bit.
use Rattle.std.specs.Prelude.{ℕ, ◌+◌, ◌^◌, Bool, false, eqb, leb}
use Rattle.std.specs.Int.Bits.{bit_xor}
use Rattle.std.specs.Int.Count.{ones}
use Rattle.scan.specs.Scan.{pick}
use Rattle.paths.specs.Mesh.{Mesh}

-- the sizes: 1 to 32 dimensions
abbrev pub known : ℕ → Bool
known n = pick (leb 1 n) (leb n 32) false

unfoldable pub linked : ℕ → ℕ → Bool
linked u v = eqb (ones (bit_xor u v)) 1

abbrev pub cube : ℕ → Mesh
cube n = record { relays = 2 ^ n; links = n; longest = n + 1; linked = linked }
