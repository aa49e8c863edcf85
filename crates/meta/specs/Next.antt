-- The next hop and the plain route. While some part differs, the relay's own class's part is corrected, lowest bit first, and where that part agrees the class becomes the next along the
-- cyclic Gray order; when all parts agree, the class is corrected, lowest bit first.
use Rattle.std.specs.Prelude.{ℕ, ◌+◌, ◌*◌, List, eqb}
use Rattle.std.specs.Int.Bits.{bit_xor}
use Rattle.std.specs.Int.Count.{count_trailing_zeros}
use Rattle.bits.specs.Bit.{flip}
use Rattle.scan.specs.Scan.{pick}
use Rattle.paths.specs.Mesh.{width}
use Rattle.paths.specs.Walk as walk
use Rattle.meta_parts.specs.Meta.{span, class_of, parts_of, part, meta}
use Rattle.meta.specs.Cycle.{after}

-- the class to go to, from class c, where the relay and the target of class d differ in the bits of y
unfoldable pub heading : (k m c d y : ℕ) → ℕ
heading k m c d y = pick (eqb (parts_of k m y) 0) d (after k c)

-- the bit that changes: of the part of class c where it differs, else of the class
unfoldable pub turn : (k m c d y : ℕ) → ℕ
turn k m c d y =
    pick (eqb (part m c y) 0) (span k m + count_trailing_zeros k (bit_xor c (heading k m c d y))) (m * c + count_trailing_zeros m (part m c y))

-- the relay after u on the way to t, and t itself where u is t
unfoldable pub next : (k m u t : ℕ) → ℕ
next k m u t = pick (eqb u t) u (flip u (turn k m (class_of k m u) (class_of k m t) (bit_xor u t)))

-- the number of next-hop steps from s to t, and the relays on the way, s the first
unfoldable pub hops : (k m s t : ℕ) → ℕ
hops k m s t = walk.hops (width (meta k m)) (next k m) s t

unfoldable pub route : (k m s t : ℕ) → List ℕ
route k m s t = walk.route (next k m) s t (hops k m s t)
