-- A sheet: a fan as bytes (`sheet_of`), and the fan of bytes (`paths_at`, `zones_at`), over the version v. A path is the list of the relays after its source. Numbers
-- stand with their highest byte first. Versions 1 and 2 are written and read.
--
--     length    4 bytes, of all that follows it
--     version   1 byte
--     kind, size, how many paths   1 byte each
--     source    8 bytes
--     for each path: hops, 2 bytes; in version 2 its zone, 4 bytes; and its relays after the source, 8 bytes each
use Rattle.std.specs.Prelude.{ℕ, zero, suc, ◌+◌, ◌-◌, ◌*◌, Bool, List, [], ◌∷◌, ◌++◌, eqb, length, get_or, drop, replicate}
use Rattle.scan.specs.Scan.{pick}
use Rattle.octets.specs.Big.{big, number}
use Rattle.paths.specs.Fan.{filler}
use Rattle.paths.specs.Read.{read}

-- ---- the bytes of a fan

-- the version of sheets without zones
abbrev pub VERSION : ℕ
VERSION = 1

-- and the one with
abbrev pub ZONED : ℕ
ZONED = 2

-- whether paths have a zone in a version
abbrev pub zoned : ℕ → Bool
zoned v = eqb v ZONED

-- the bytes of a path before its relays
abbrev pub head : ℕ → ℕ
head v = pick (zoned v) 6 2

-- the bytes of its zone, where the version has one
abbrev pub zone_bytes : (v zone : ℕ) → List ℕ
zone_bytes v zone = pick (zoned v) (big 4 zone) []

unfoldable pub relays_bytes : List ℕ → List ℕ
relays_bytes [] = []
relays_bytes (x ∷ l) = big 8 x ++ relays_bytes l

unfoldable pub path_bytes : (v zone : ℕ) (path : List ℕ) → List ℕ
path_bytes v zone path = big 2 (length path) ++ (zone_bytes v zone ++ relays_bytes path)

-- the zones stand in a list of their own, and are 0 beyond its end
unfoldable pub paths_bytes : (v : ℕ) (zones : List ℕ) (paths : List (List ℕ)) → List ℕ
paths_bytes v zones [] = []
paths_bytes v zones (p ∷ l) = path_bytes v (get_or zones 0 0) p ++ paths_bytes v (drop 1 zones) l

-- version, kind, size and how many paths
abbrev pub fields : (v kind size k : ℕ) → List ℕ
fields v kind size k = v ∷ kind ∷ size ∷ k ∷ []

-- all that follows the length
unfoldable pub body_of : (v kind size source : ℕ) (zones : List ℕ) (paths : List (List ℕ)) → List ℕ
body_of v kind size s zones paths = fields v kind size (length paths) ++ big 8 s ++ paths_bytes v zones paths

unfoldable pub sheet_of : (v kind size source : ℕ) (zones : List ℕ) (paths : List (List ℕ)) → List ℕ
sheet_of v kind size s zones paths = big 4 (length (body_of v kind size s zones paths)) ++ body_of v kind size s zones paths

-- ---- the fan of bytes

-- the bytes before the first path
abbrev pub HEAD : ℕ
HEAD = 16

abbrev pub length_at : List ℕ → ℕ
length_at l = number l 0 4

abbrev pub version_at : List ℕ → ℕ
version_at l = get_or l 4 0

-- the version to read a sheet in that may have either: 1 unless it says 2
abbrev pub version_of : List ℕ → ℕ
version_of l = pick (zoned (version_at l)) ZONED VERSION

abbrev pub kind_at : List ℕ → ℕ
kind_at l = get_or l 5 0

abbrev pub size_at : List ℕ → ℕ
size_at l = get_or l 6 0

abbrev pub count_at : List ℕ → ℕ
count_at l = get_or l 7 0

abbrev pub source_at : List ℕ → ℕ
source_at l = number l 8 8

-- the hops of the path that begins at the place `at`, and the place after it
abbrev pub hops_at : List ℕ → ℕ → ℕ
hops_at l at = number l at 2

abbrev pub after : (v : ℕ) (l : List ℕ) (at : ℕ) → ℕ
after v l at = at + head v + hops_at l at * 8

-- its zone, and 0 where the version has none
abbrev pub zone_at : (v : ℕ) (l : List ℕ) (at : ℕ) → ℕ
zone_at v l at = pick (zoned v) (number l (at + 2) 4) 0

unfoldable pub relays_at : (l : List ℕ) (at n : ℕ) → List ℕ
relays_at l at zero = []
relays_at l at (suc n) = number l at 8 ∷ relays_at l (at + 8) n

unfoldable pub paths_at : (v : ℕ) (l : List ℕ) (at k : ℕ) → List (List ℕ)
paths_at v l at zero = []
paths_at v l at (suc k) = relays_at l (at + head v) (hops_at l at) ∷ paths_at v l (after v l at) k

unfoldable pub zones_at : (v : ℕ) (l : List ℕ) (at k : ℕ) → List ℕ
zones_at v l at zero = []
zones_at v l at (suc k) = zone_at v l at ∷ zones_at v l (after v l at) k

-- the zones of k paths as a sheet of version v tells them: 0 where it has none
unfoldable pub zones_of : (v : ℕ) (zones : List ℕ) (k : ℕ) → List ℕ
zones_of v zones zero = []
zones_of v zones (suc k) = pick (zoned v) (get_or zones 0 0) 0 ∷ zones_of v (drop 1 zones) k

-- ---- paths as they are lent: the source first, filler after the end; their hops; their last relays

unfoldable pub row : (s longest : ℕ) (path : List ℕ) → List ℕ
row s longest path = (s ∷ path) ++ replicate (longest - length path) filler

unfoldable pub places_of : (s longest : ℕ) (paths : List (List ℕ)) → List ℕ
places_of s longest [] = []
places_of s longest (p ∷ l) = row s longest p ++ places_of s longest l

unfoldable pub counts_of : List (List ℕ) → List ℕ
counts_of [] = []
counts_of (p ∷ l) = length p ∷ counts_of l

-- the last relay of a path from s
unfoldable pub last_of : (s : ℕ) (path : List ℕ) → ℕ
last_of s [] = s
last_of s (x ∷ l) = last_of x l

unfoldable pub targets_of : (s : ℕ) (paths : List (List ℕ)) → List ℕ
targets_of s [] = []
targets_of s (p ∷ l) = last_of s p ∷ targets_of s l

-- the n paths from path i on of lent slices, w places each
unfoldable pub paths_from : (w : ℕ) (places counts : List ℕ) (i n : ℕ) → List (List ℕ)
paths_from w places counts i zero = []
paths_from w places counts i (suc n) = read w places counts i ∷ paths_from w places counts (suc i) n

-- k paths
abbrev pub paths_of : (w : ℕ) (places counts : List ℕ) (k : ℕ) → List (List ℕ)
paths_of w places counts k = paths_from w places counts 0 k
