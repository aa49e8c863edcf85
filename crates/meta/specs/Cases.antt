-- Worked cases of metacubes, from the definitions: the links of two relays of size 130 (k 2, m 2), over all 1,024; and plain routes of sizes 66 (k 1, m 2), 129 (k 2, m 1; in the second the
-- cycle goes round from its last class to its first, in the third all parts agree) and 193 (k 3, m 1). Assumes nothing.
use Rattle.std.specs.Prelude.{ℕ, zero, suc, ◌≡◌, refl, List, [], ◌∷◌}
use Rattle.std.specs.Int.Count.{count_trailing_zeros}
use Rattle.bits.specs.Bit.{flip}
use Rattle.bits.specs.Gray.{gray}
use Rattle.scan.specs.Scan.{seek}
use Rattle.paths.specs.Walk as walk
use Rattle.meta_parts.specs.Meta.{class_of, parts_of, part}
use Rattle.meta_parts.specs.Near.{near, door}
use Rattle.meta.specs.Cycle.{place, after}
use Rattle.meta.specs.Next.{heading, turn, next, hops, route}

-- the relays that the first n links lead to
abbrev ends : (k m u n : ℕ) → List ℕ
ends k m u zero = []
ends k m u (suc n) = near k m u n ∷ ends k m u n

pub case_links : (ends 2 2 0 4 ≡ 512 ∷ 256 ∷ 2 ∷ 1 ∷ []) × (ends 2 2 256 4 ≡ 768 ∷ 0 ∷ 264 ∷ 260 ∷ [])
unfolding near door class_of flip
case_links = (refl, refl)

pub case_routes : (route 1 2 0 31 ≡ 0 ∷ 1 ∷ 3 ∷ 19 ∷ 23 ∷ 31 ∷ []) × (route 2 1 32 8 ≡ 32 ∷ 0 ∷ 16 ∷ 48 ∷ 56 ∷ 40 ∷ 8 ∷ []) × (route 2 1 0 48 ≡ 0 ∷ 16 ∷ 48 ∷ [])
    × (route 3 1 0 1152 ≡ 0 ∷ 256 ∷ 768 ∷ 512 ∷ 1536 ∷ 1792 ∷ 1920 ∷ 1664 ∷ 1152 ∷ [])
unfolding route hops walk.hops walk.route walk.node seek next turn heading after place gray class_of parts_of part flip count_trailing_zeros
case_routes = (refl, refl, refl, refl)
