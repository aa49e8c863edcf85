-- The bytes of a book: pieces one after another, each a sheet or one that was removed, which has version 0 and is not looked at any more but for its length. What a piece's
-- first 16 bytes tell (`length_of`, `live`, `key_at`); the bytes of pieces (`joined`); their index (`placed`), and the index worked out afresh from bytes alone
-- (`afresh`). Assumes nothing.
use Rattle.std.specs.Prelude.{ℕ, zero, suc, ◌+◌, ◌*◌, Bool, false, not, List, [], ◌∷◌, ◌++◌, eqb, length, drop}
use Rattle.std.proofs.Math.Option.{Option, none, some}
use Rattle.scan.specs.Scan.{pick}
use Rattle.sheet.specs.Format.{length_at, version_at, kind_at, size_at, source_at}
use Rattle.book.specs.Ordered.{entry, insert}

-- ---- the first 16 bytes

-- the bytes of a sheet: the four of its length, and what that tells
abbrev pub length_of : List ℕ → ℕ
length_of l = 4 + length_at l

abbrev pub live : List ℕ → Bool
live l = not (eqb (version_at l) 0)

-- the sources that a key can tell
abbrev pub SOURCES : ℕ
SOURCES = 137438953472

-- kind, size and source as one number: in order as they are
abbrev pub key : (kind size source : ℕ) → ℕ
key kind size source = (kind * 256 + size) * SOURCES + source

abbrev pub key_at : List ℕ → ℕ
key_at l = key (kind_at l) (size_at l) (source_at l)

-- whether a sheet is that of a kind, a size and a source
abbrev pub of : (kind size source : ℕ) → List ℕ → Bool
of kind size source l = pick (eqb (kind_at l) kind) (pick (eqb (size_at l) size) (eqb (source_at l) source) false) false

-- ---- pieces

-- their bytes
unfoldable pub joined : List (List ℕ) → List ℕ
joined [] = []
joined (p ∷ ps) = p ++ joined ps

-- the places of the live ones in their order, the first of them at `from`
unfoldable pub placed : (from : ℕ) → List (List ℕ) → List ℕ
placed from [] = []
placed from (p ∷ ps) = pick (live p) (insert (entry (key_at p) from) (placed (from + length p) ps)) (placed (from + length p) ps)

-- the live one of a kind, a size and a source
unfoldable pub sheet_of : (kind size source : ℕ) → List (List ℕ) → Option (List ℕ)
sheet_of kind size source [] = none
sheet_of kind size source (p ∷ ps) = pick (live p) (pick (of kind size source p) (some p) (sheet_of kind size source ps)) (sheet_of kind size source ps)

-- ---- bytes alone

-- the index of bytes of which the first stands at the place `at`: piece by piece, by the lengths that they tell, in so many steps at most
unfoldable pub walk : (steps at : ℕ) (l : List ℕ) → List ℕ
walk zero at l = []
walk (suc steps) at [] = []
walk (suc steps) at (x ∷ l) =
    let rest = walk steps (at + length_of (x ∷ l)) (drop (length_of (x ∷ l)) (x ∷ l)) in
    pick (live (x ∷ l)) (insert (entry (key_at (x ∷ l)) at) rest) rest

abbrev pub afresh : List ℕ → List ℕ
afresh l = walk (length l) 0 l
