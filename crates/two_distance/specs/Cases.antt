-- The specification's case F: the distances of relays 0 to 7 of order 1 from relay 0, from the definition of distance. Pairs of orders 2 and 3, both ways and
-- by way of a third relay (`BothWays`, which proofs/Cases.antt proves), and the farthest relays (`farthest`), from the tables. Assumes nothing.
use Rattle.std.specs.Prelude.{ℕ, zero, suc, ◌≡◌, refl, List, [], ◌∷◌, eqb}
use Rattle.std.specs.Int.Count.{ones, ones_in}
use Rattle.scan.specs.Scan.{pick, seek, any}
use Rattle.two_parts.specs.Two.{joined, linked, two}
use Rattle.paths.specs.Ways.{reaches, distance}
use Rattle.two_distance.specs.Tables.{table1, table2, table3}

-- the distances of the n relays from i on
unfoldable pub distances : (m i n : ℕ) → List ℕ
distances m i zero = []
distances m i (suc n) = distance (two m) 0 i ∷ distances m (suc i) n

abbrev pub CaseF : Type 0
CaseF = distances 1 0 8 ≡ 0 ∷ 1 ∷ 1 ∷ 2 ∷ 3 ∷ 2 ∷ 4 ∷ 3 ∷ []

pub case_f : CaseF
unfolding distances distance reaches any seek linked joined ones ones_in
case_f = refl

-- 0 to 23 and back, and by way of 6; and the largest distance of order 3 and back
abbrev pub BothWays : Type 0
BothWays =
    (distance (two 2) 0 23 ≡ 4) × (distance (two 2) 23 0 ≡ 4) × (distance (two 2) 0 6 ≡ 2) × (distance (two 2) 6 23 ≡ 2)
    × (distance (two 3) 0 2040 ≡ 16) × (distance (two 3) 2040 0 ≡ 16)

-- the places of x in a list, counted from i
unfoldable pub places : (x i : ℕ) → List ℕ → List ℕ
places x i [] = []
places x i (y ∷ l) = let rest = places x (suc i) l in pick (eqb y x) (i ∷ rest) rest

abbrev pub Farthest : Type 0
Farthest =
    (places 4 0 table1 ≡ 6 ∷ [])
    × (places 8 0 table2 ≡ 60 ∷ 63 ∷ [])
    × (places 16 0 table3 ≡ 2040 ∷ 2043 ∷ 2045 ∷ 2046 ∷ [])

pub farthest : Farthest
unfolding places table1 table2 table3
farthest = (refl, refl, refl)
