-- The zones of a sheet, and of a list that is written: those beyond the paths do not matter (`zones_front`), nor does any in version 1 (`unzoned`); what is read of a list that has no stray
-- zone is its front (`zones_read`); and what is read of a sheet has none (`read_unstray`). Assumes nothing.
use Rattle.std.specs.Prelude.{ℕ, zero, suc, ◌+◌, ◌^◌, ◌≤◌, ◌<◌, ◌≡◌, refl, Bool, true, false, not, List, [], ◌∷◌, ◌++◌, eqb, length, get_or, drop, take}
use Rattle.std.proofs.Common.{sym, ap, ap₂, ◌∙◌, arith, get_or-drop, get_or-take, length-take-le, ext_get_or, eqb-true, eq-eqb}
use Rattle.std.proofs.Math.ListN.{get_or-append}
use Rattle.std.proofs.lemmas.Bool.{not-false}
use Rattle.scan.specs.Laws.{none-seek, seek-none, seek-same}
use Rattle.scan.specs.Scan.{nowhere, seek, pick}
use Rattle.octets.specs.Big.{Bytes, number, number-below}
use Rattle.sheet.specs.Format.{VERSION, zoned, path_bytes, paths_bytes, body_of, sheet_of, zones_at, zones_of, after}
use Rattle.sheet.specs.Lengths.{zones_length}
use Rattle.sheet_trips.specs.There.{Narrow}
use Rattle.sheet_put.specs.Stray.{has_zone, stray_at, stray_in}

-- version 1 has no zones, whatever stands in the list
pub unzoned : (zones others : List ℕ) (ps : List (List ℕ)) → paths_bytes VERSION zones ps ≡ paths_bytes VERSION others ps
unfolding paths_bytes path_bytes
unzoned zones others [] = refl
unzoned zones others (p ∷ ps) = ap (λ (r : List ℕ). path_bytes VERSION 0 p ++ r) (unzoned (drop 1 zones) (drop 1 others) ps)

-- zones that are the same so far as there are paths
pub zones_front : (v : ℕ) (zones others : List ℕ) (ps : List (List ℕ)) → ((i : ℕ) → i < length ps → get_or zones i 0 ≡ get_or others i 0) → paths_bytes v zones ps ≡ paths_bytes v others ps
unfolding paths_bytes
zones_front v zones others [] h = refl
zones_front v zones others (p ∷ ps) h =
    ap₂ ◌++◌ (ap (λ (z : ℕ). path_bytes v z p) (h 0 (omega arith)))
    (zones_front v (drop 1 zones) (drop 1 others) ps (λ i g. get_or-drop 1 zones i 0 ∙ h (1 + i) (omega arith) ∙ sym (get_or-drop 1 others i 0)))

-- the sheets are the same where the bytes of the paths are
pub sheet-same : (v kind size s : ℕ) (zones others : List ℕ) (ps : List (List ℕ)) → paths_bytes v zones ps ≡ paths_bytes v others ps → sheet_of v kind size s zones ps ≡ sheet_of v kind size s others ps
unfolding sheet_of body_of
sheet-same v kind size s zones others ps e = cc

-- what stands beyond them is not in the way
pub stray_front : (v : ℕ) (zones others : List ℕ) (k : ℕ) → ((i : ℕ) → i < k → get_or zones i 0 ≡ get_or others i 0) → stray_in v zones k ≡ stray_in v others k
unfolding stray_at
stray_front v zones others k h = ap (pick (zoned v) nowhere) (seek-same (has_zone zones) (has_zone others) 0 k (λ i a b. ap (λ (z : ℕ). not (eqb z 0)) (h i (omega arith))))

-- ---- written

zones_of-length : (v : ℕ) (zones : List ℕ) (k : ℕ) → length (zones_of v zones k) ≡ k
unfolding zones_of
zones_of-length v zones zero = refl
zones_of-length v zones (suc k) = ap suc (zones_of-length v (drop 1 zones) k)

zones_of-at : (v : ℕ) (zones : List ℕ) (k i : ℕ) → i < k → get_or (zones_of v zones k) i 0 ≡ pick (zoned v) (get_or zones i 0) 0
unfolding zones_of
zones_of-at v zones zero i h = absurd (omega arith)
zones_of-at v zones (suc k) zero h = refl
zones_of-at v zones (suc k) (suc i) h =
    let one : 1 + i ≡ suc i = omega arith in
    zones_of-at v (drop 1 zones) k i (omega arith) ∙ ap (λ (x : ℕ). pick (zoned v) x 0) (get_or-drop 1 zones i 0 ∙ ap (λ (j : ℕ). get_or zones j 0) one)

-- what is read of zones none of which is in the way
pub zones_read : (v : ℕ) (zones : List ℕ) (k : ℕ) → stray_in v zones k ≡ nowhere → k ≤ length zones → zones_of v zones k ≡ take k zones
unfolding stray_at
zones_read v zones k e h =
    let few = zones_of-length v zones k in
    ext_get_or 0 (zones_of v zones k) (take k zones) (few ∙ sym (length-take-le k zones h))
    (λ i g. zones_of-at v zones k i (omega (arith, few)) ∙ go (zoned v) e i (omega (arith, few)) ∙ sym (get_or-take k zones i 0 (omega (arith, few))))
  where
    go : (b : Bool) → pick b nowhere (seek (has_zone zones) 0 k) ≡ nowhere → (i : ℕ) → i < k → pick b (get_or zones i 0) 0 ≡ get_or zones i 0
    go true f i g = refl
    go false f i g = sym (eqb-true (get_or zones i 0) 0 (not-false (eqb (get_or zones i 0) 0) (seek-none (has_zone zones) 0 k f i (omega arith) (omega arith))))

-- ---- read

pub none_read : (v : ℕ) (l : List ℕ) (at k i : ℕ) → zoned v ≡ false → get_or (zones_at v l at k) i 0 ≡ 0
unfolding zones_at
none_read v l at zero i e = refl
none_read v l at (suc k) zero e = ap (λ (b : Bool). pick b (number l (at + 2) 4) 0) e
none_read v l at (suc k) (suc i) e = none_read v l (after v l at) k i e

-- what is read of a sheet, and what follows it, has no zone in the way
pub read_unstray : (v : ℕ) (l : List ℕ) (at k : ℕ) (rest : List ℕ) → stray_in v (zones_at v l at k ++ rest) k ≡ nowhere
unfolding stray_at
read_unstray v l at k rest = go (zoned v) refl
  where
    go : (b : Bool) → zoned v ≡ b → pick b nowhere (seek (has_zone (zones_at v l at k ++ rest)) 0 k) ≡ nowhere
    go true e = refl
    go false e =
        none-seek (has_zone (zones_at v l at k ++ rest)) 0 k
        (λ j a g. ap not (eq-eqb (get_or (zones_at v l at k ++ rest) j 0) 0 (get_or-append (zones_at v l at k) rest 0 j (omega (arith, zones_length v l at k)) ∙ none_read v l at k j e)))

-- zones that are read have 32 bits
pub read_narrow : (v : ℕ) (l : List ℕ) → Bytes l → (at k : ℕ) → Narrow (zones_at v l at k)
unfolding zones_at
read_narrow v l b at zero i = omega arith
read_narrow v l b at (suc k) zero = go (zoned v)
  where
    go : (z : Bool) → pick z (number l (at + 2) 4) 0 < 256 ^ 4
    go true = number-below l b (at + 2) 4
    go false = omega arith
read_narrow v l b at (suc k) (suc i) = read_narrow v l b (after v l at) k i
