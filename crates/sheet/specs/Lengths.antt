-- How long things are: the bytes of paths and of a sheet, 16 and for each path its head, in version 1 of 2 bytes, and 8 for each hop (`sheet-bytes`); the paths of bytes and of slices
-- (`paths-length`, `paths_from-length`), and what is lent of them (`row-length`, `counts-length`, `targets-length`). Assumes nothing.
use Rattle.std.specs.Prelude.{ℕ, zero, suc, ◌+◌, ◌*◌, ◌≤◌, ◌-◌, ◌≡◌, refl, Bool, true, false, List, [], ◌∷◌, ◌++◌, length, get_or, drop, replicate}
use Rattle.std.proofs.Common.{ap, ◌∙◌, arith, eq-eqb}
use Rattle.std.proofs.Math.ListN.{length-append}
use Rattle.std.proofs.lemmas.List.{length-replicate}
use Rattle.scan.specs.Scan.{pick}
use Rattle.octets.specs.Big.{big, big-length}
use Rattle.paths.specs.Fan.{filler}
use Rattle.sheet.specs.Format.{ZONED, fields, zoned, head, zone_bytes, relays_bytes, path_bytes, paths_bytes, body_of, sheet_of, paths_from, HEAD, relays_at, after, paths_at, zones_at, row, counts_of, targets_of}

pub relays-length : (l : List ℕ) → length (relays_bytes l) ≡ length l * 8
unfolding relays_bytes
relays-length [] = refl
relays-length (x ∷ l) = length-append (big 8 x) (relays_bytes l) ∙ omega (arith, big-length 8 x, relays-length l)

-- the zone is the rest of a path's head
pub zone_length : (v zone : ℕ) → 2 + length (zone_bytes v zone) ≡ head v
zone_length v zone = go (zoned v)
  where
    go : (b : Bool) → 2 + length (pick b (big 4 zone) []) ≡ pick b 6 2
    go true = omega (arith, big-length 4 zone)
    go false = refl

pub head_bounds : (v : ℕ) → (2 ≤ head v) × (head v ≤ 6)
head_bounds v = go (zoned v)
  where
    go : (b : Bool) → (2 ≤ pick b 6 2) × (pick b 6 2 ≤ 6)
    go true = (omega arith, omega arith)
    go false = (omega arith, omega arith)

-- with a zone it has six
pub head-zoned : {v : ℕ} → v ≡ ZONED → head v ≡ 6
head-zoned {v} e = ap (λ (b : Bool). pick {A = ℕ} b 6 2) (eq-eqb v ZONED e)

pub path-length : (v zone : ℕ) (p : List ℕ) → length (path_bytes v zone p) ≡ head v + length p * 8
unfolding path_bytes
path-length v zone p =
    length-append (big 2 (length p)) (zone_bytes v zone ++ relays_bytes p)
    ∙ omega (arith, big-length 2 (length p), length-append (zone_bytes v zone) (relays_bytes p), zone_length v zone, relays-length p)

-- the sheet is its head and its paths
module _ (v kind size s : ℕ) (zones : List ℕ) (ps : List (List ℕ)) where
  pub body-length : length (body_of v kind size s zones ps) ≡ length (paths_bytes v zones ps) + 12
  unfolding body_of
  body-length =
      length-append (fields v kind size (length ps) ++ big 8 s) (paths_bytes v zones ps)
      ∙ omega (arith, length-append (fields v kind size (length ps)) (big 8 s), big-length 8 s)

  pub sheet-length : length (sheet_of v kind size s zones ps) ≡ length (paths_bytes v zones ps) + 16
  unfolding sheet_of
  sheet-length =
      length-append (big 4 (length (body_of v kind size s zones ps))) (body_of v kind size s zones ps)
      ∙ omega (arith, big-length 4 (length (body_of v kind size s zones ps)), body-length)

-- the bytes that paths take
unfoldable pub bytes_of : (v : ℕ) → List (List ℕ) → ℕ
bytes_of v [] = 0
bytes_of v (p ∷ l) = head v + 8 * length p + bytes_of v l

pub paths-bytes : (v : ℕ) (zones : List ℕ) (ps : List (List ℕ)) → length (paths_bytes v zones ps) ≡ bytes_of v ps
unfolding paths_bytes bytes_of
paths-bytes v zones [] = refl
paths-bytes v zones (p ∷ l) =
    length-append (path_bytes v (get_or zones 0 0) p) (paths_bytes v (drop 1 zones) l) ∙ omega (arith, path-length v (get_or zones 0 0) p, paths-bytes v (drop 1 zones) l)

pub sheet-bytes : (v kind size s : ℕ) (zones : List ℕ) (ps : List (List ℕ)) → length (sheet_of v kind size s zones ps) ≡ HEAD + bytes_of v ps
sheet-bytes v kind size s zones ps = sheet-length v kind size s zones ps ∙ omega (arith, paths-bytes v zones ps)

pub relays-count : (l : List ℕ) (at n : ℕ) → length (relays_at l at n) ≡ n
unfolding relays_at
relays-count l at zero = refl
relays-count l at (suc n) = ap suc (relays-count l (at + 8) n)

pub paths-length : (v : ℕ) (l : List ℕ) (at k : ℕ) → length (paths_at v l at k) ≡ k
unfolding paths_at
paths-length v l at zero = refl
paths-length v l at (suc k) = ap suc (paths-length v l (after v l at) k)

pub zones_length : (v : ℕ) (l : List ℕ) (at k : ℕ) → length (zones_at v l at k) ≡ k
unfolding zones_at
zones_length v l at zero = refl
zones_length v l at (suc k) = ap suc (zones_length v l (after v l at) k)

pub paths_from-length : (w : ℕ) (places counts : List ℕ) (i n : ℕ) → length (paths_from w places counts i n) ≡ n
unfolding paths_from
paths_from-length w places counts i zero = refl
paths_from-length w places counts i (suc n) = ap suc (paths_from-length w places counts (suc i) n)

pub row-length : (s longest : ℕ) (path : List ℕ) → length path ≤ longest → length (row s longest path) ≡ longest + 1
unfolding row
row-length s longest path h =
    length-append (s ∷ path) (replicate (longest - length path) filler)
    ∙ ap (λ (n : ℕ). suc (length path) + n) (length-replicate (longest - length path) filler) ∙ omega arith

pub counts-length : (ps : List (List ℕ)) → length (counts_of ps) ≡ length ps
unfolding counts_of
counts-length [] = refl
counts-length (p ∷ ps) = ap suc (counts-length ps)

pub targets-length : (s : ℕ) (ps : List (List ℕ)) → length (targets_of s ps) ≡ length ps
unfolding targets_of
targets-length s [] = refl
targets-length s (p ∷ ps) = ap suc (targets-length s ps)
