-- The next hop and the plain route. While blocks differ, the slot walks to a differing block bit, the first in the reflected Gray order
-- (`crossing`), and crosses there; when they agree, it walks to the target's. A slot walks by its lowest bit that differs.
use Rattle.std.specs.Prelude.{ℕ, ◌^◌, Bool, List, eqb}
use Rattle.std.specs.Int.Bits.{bit_xor}
use Rattle.std.specs.Int.Count.{count_trailing_zeros}
use Rattle.bits.specs.Bit.{bit, flip}
use Rattle.bits.specs.Gray.{gray}
use Rattle.scan.specs.Scan.{pick, seek}
use Rattle.paths.specs.Mesh.{width}
use Rattle.paths.specs.Walk as walk
use Rattle.two_parts.specs.Two.{block_of, slot_of, relay, two}

-- whether the bit at place i of the Gray order is one of x, the bits in which two blocks differ
unfoldable pub differing : (x i : ℕ) → Bool
differing x i = eqb (bit (gray i) x) 1

-- the place of the first of them, and the bit, which is to be corrected first: the order of block bits is in these two definitions alone
unfoldable pub place : (m x : ℕ) → ℕ
place m x = walk.number (seek (differing x) 0 (2 ^ m))

unfoldable pub crossing : (m x : ℕ) → ℕ
crossing m x = gray (place m x)

-- the slot after p on the way to q in one block
unfoldable pub toward : (m p q : ℕ) → ℕ
toward m p q = pick (eqb p q) p (flip p (count_trailing_zeros m (bit_xor p q)))

-- the slot to walk to, from block b towards block c, slot q
unfoldable pub heading : (m b c q : ℕ) → ℕ
heading m b c q = pick (eqb b c) q (crossing m (bit_xor b c))

-- the block after block b, slot p on the way to block c, where the slot walks to h
unfoldable pub crossed : (b p c h : ℕ) → ℕ
crossed b p c h = pick (eqb b c) b (pick (eqb p h) (flip b p) b)

-- the relay after block b, slot p on the way to block c, slot q: its block, its slot and its number
unfoldable pub next_block : (m b p c q : ℕ) → ℕ
next_block m b p c q = crossed b p c (heading m b c q)

unfoldable pub next_slot : (m b p c q : ℕ) → ℕ
next_slot m b p c q = toward m p (heading m b c q)

unfoldable pub step : (m b p c q : ℕ) → ℕ
step m b p c q = relay m (next_block m b p c q) (next_slot m b p c q)

-- the relay after u on the way to t
unfoldable pub next : (m u t : ℕ) → ℕ
next m u t = step m (block_of m u) (slot_of m u) (block_of m t) (slot_of m t)

-- the number of next-hop steps from s to t, and the relays on the way, s the first
unfoldable pub hops : (m s t : ℕ) → ℕ
hops m s t = walk.hops (width (two m)) (next m) s t

unfoldable pub route : (m s t : ℕ) → List ℕ
route m s t = walk.route (next m) s t (hops m s t)
