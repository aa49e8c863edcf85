-- The two-level mesh of order m: a relay has a block of 2 ^ m bits and a slot of m bits, and its number is block * 2 ^ m + slot.
-- Two relays are linked when they share a block and their slots differ in one bit, or when they share slot p and their blocks
-- differ in bit p alone.
use Rattle.std.specs.Prelude.{ℕ, ◌+◌, ◌*◌, ◌/◌, ◌%◌, ◌^◌, Bool, false, ◌&&◌, ◌||◌, eqb, leb, ltb}
use Rattle.std.specs.Int.Bits.{bit_xor}
use Rattle.std.specs.Int.Count.{ones}
use Rattle.scan.specs.Scan.{pick}
use Rattle.paths.specs.Mesh.{Mesh}

-- the orders: 1 to 5
abbrev pub known : ℕ → Bool
known m = pick (leb 1 m) (leb m 5) false

abbrev pub slots : ℕ → ℕ
slots m = 2 ^ m

abbrev pub blocks : ℕ → ℕ
blocks m = 2 ^ (2 ^ m)

abbrev pub relays : ℕ → ℕ
relays m = 2 ^ (2 ^ m + m)

abbrev pub longest : ℕ → ℕ
longest m = m * 2 ^ m + 2 ^ m + 2 * m + 4

abbrev pub block_of : (m r : ℕ) → ℕ
block_of m r = r / 2 ^ m

abbrev pub slot_of : (m r : ℕ) → ℕ
slot_of m r = r % 2 ^ m

abbrev pub relay : (m block slot : ℕ) → ℕ
relay m b p = b * 2 ^ m + p

-- whether block b, slot p is linked to block c, slot q
unfoldable pub joined : (b p c q : ℕ) → Bool
joined b p c q = (eqb b c && eqb (ones (bit_xor p q)) 1) || (eqb p q && eqb (bit_xor b c) (2 ^ p))

unfoldable pub linked : (m u v : ℕ) → Bool
linked m u v = joined (block_of m u) (slot_of m u) (block_of m v) (slot_of m v)

abbrev pub two : ℕ → Mesh
two m = record { relays = relays m; links = m + 1; longest = longest m; linked = linked m }

-- the number of block b, slot p; of a part that is out of range, a number that no relay has; 0 of an unknown order
unfoldable pub named : (m b p : ℕ) → ℕ
named m b p = pick (known m) (pick (ltb b (blocks m) && ltb p (slots m)) (relay m b p) (relays m)) 0
