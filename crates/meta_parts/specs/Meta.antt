-- The metacube of k class bits and parts of m bits: a relay has a class of k bits and 2 ^ k parts of m bits each, and its number holds the class at the top, then the last part
-- down to part 0. Two relays are linked when their numbers differ in one bit and either they have the same class, and its own part differs in that bit, or their
-- classes differ in it. The size of such a mesh is k * 64 + m.
use Rattle.std.specs.Prelude.{ℕ, ◌+◌, ◌-◌, ◌*◌, ◌/◌, ◌%◌, ◌^◌, Bool, false, ◌&&◌, ◌||◌, eqb, leb}
use Rattle.std.specs.Int.Bits.{bit_xor}
use Rattle.std.specs.Int.Count.{ones}
use Rattle.scan.specs.Scan.{pick}
use Rattle.paths.specs.Mesh.{Mesh}

-- k and m of a size
unfoldable pub class_bits : ℕ → ℕ
class_bits n = n / 64

unfoldable pub part_bits : ℕ → ℕ
part_bits n = n % 64

-- the bits of all parts, and those of a relay's number
abbrev pub span : (k m : ℕ) → ℕ
span k m = m * 2 ^ k

abbrev pub bits : (k m : ℕ) → ℕ
bits k m = k + m * 2 ^ k

-- the sizes: at most 3 class bits, parts of a bit or more, at most 37 bits in all
abbrev pub served : (k m : ℕ) → Bool
served k m = pick (leb k 3) (pick (leb 1 m) (leb (k + m * 2 ^ k) 37) false) false

unfoldable pub known : ℕ → Bool
known n = served (class_bits n) (part_bits n)

abbrev pub relays : (k m : ℕ) → ℕ
relays k m = 2 ^ (k + m * 2 ^ k)

abbrev pub longest : (k m : ℕ) → ℕ
longest k m = 2 ^ k - 1 + k + m * 2 ^ k

-- a relay's class, its parts together, and part c of them
unfoldable pub class_of : (k m u : ℕ) → ℕ
class_of k m u = u / 2 ^ (m * 2 ^ k)

unfoldable pub parts_of : (k m u : ℕ) → ℕ
parts_of k m u = u % 2 ^ (m * 2 ^ k)

unfoldable pub part : (m c u : ℕ) → ℕ
part m c u = u / 2 ^ (m * c) % 2 ^ m

-- whether exactly one bit differs
unfoldable pub one : ℕ → ℕ → Bool
one x y = eqb (ones (bit_xor x y)) 1

unfoldable pub linked : (k m u v : ℕ) → Bool
linked k m u v =
    one u v && ((eqb (class_of k m u) (class_of k m v) && one (part m (class_of k m u) u) (part m (class_of k m u) v)) || one (class_of k m u) (class_of k m v))

-- the mesh of k and m, and of a size
abbrev pub meta : (k m : ℕ) → Mesh
meta k m = record { relays = relays k m; links = k + m; longest = longest k m; linked = linked k m }

abbrev pub metacube : ℕ → Mesh
metacube n = meta (class_bits n) (part_bits n)
