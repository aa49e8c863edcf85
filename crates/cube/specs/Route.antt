-- The plain route in a cube: at each relay the lowest bit in which it differs from the target is corrected.
use Rattle.std.specs.Prelude.{ℕ, List, eqb}
use Rattle.std.specs.Int.Bits.{bit_xor}
use Rattle.std.specs.Int.Count.{count_trailing_zeros}
use Rattle.bits.specs.Bit.{flip}
use Rattle.scan.specs.Scan.{pick}
use Rattle.paths.specs.Walk as walk

-- the relay after u on the way to t, and t itself where u is t
unfoldable pub next : ℕ → ℕ → ℕ
next u t = pick (eqb u t) u (flip u (count_trailing_zeros 64 (bit_xor u t)))

-- how many next hops it takes from s to t: relays have 64 bits, so 64 at most
unfoldable pub hops : ℕ → ℕ → ℕ
hops s t = walk.hops 65 next s t

-- s, the relays on the way, and t
unfoldable pub route : ℕ → ℕ → List ℕ
route s t = walk.route next s t (hops s t)
