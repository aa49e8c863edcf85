-- Which bits of its number a relay may change (`opens`), the bit that link i changes (`door`), and the relay at its other end (`near`): the m bits of its class's own
-- part, one at a time, and then the k bits of its class. Their laws are in proofs/NearLaws.antt.
use Rattle.std.specs.Prelude.{ℕ, ◌+◌, ◌-◌, ◌*◌, ◌/◌, Bool, ◌||◌, leb, ltb}
use Rattle.std.proofs.Math.Dec.{eqb}
use Rattle.bits.specs.Bit.{flip}
use Rattle.scan.specs.Scan.{pick}
use Rattle.meta_parts.specs.Meta.{span, class_of}

-- whether relay u may change bit j: one of its class, or of its class's own part
unfoldable pub opens : (k m u j : ℕ) → Bool
opens k m u j = leb (span k m) j || eqb (j / m) (class_of k m u)

-- the bit that link i of relay u changes, and the relay at its other end
unfoldable pub door : (k m u i : ℕ) → ℕ
door k m u i = pick (ltb i m) (m * class_of k m u + i) (span k m + (i - m))

unfoldable pub near : (k m u i : ℕ) → ℕ
near k m u i = flip u (door k m u i)
