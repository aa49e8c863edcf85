-- The first path with a zone that is not 0 (`stray_at`), where the version has no place for it (`stray_in`). Assumes nothing.
use Rattle.std.specs.Prelude.{ℕ, ◌≡◌, refl, Bool, true, false, not, ◌≢◌, List, [], eqb, get_or}
use Rattle.std.proofs.Common.{sym, ap, ◌∙◌, eq-eqb, ne_eqb}
use Rattle.scan.specs.Laws.{none-seek}
use Rattle.scan.specs.Scan.{Spot, nowhere, seek, pick}
use Rattle.sheet.specs.Format.{zoned}

-- whether path i has a zone
abbrev pub has_zone : (zones : List ℕ) (i : ℕ) → Bool
has_zone zones i = not (eqb (get_or zones i 0) 0)

unfoldable pub stray_at : (zones : List ℕ) (k : ℕ) → Spot
stray_at zones k = seek (has_zone zones) 0 k

abbrev pub stray_in : (v : ℕ) (zones : List ℕ) (k : ℕ) → Spot
stray_in v zones k = pick (zoned v) nowhere (stray_at zones k)

-- no zones are all 0
pub none_stray : (k : ℕ) → stray_at [] k ≡ nowhere
unfolding stray_at
none_stray k = none-seek (has_zone []) 0 k (λ j a b. refl)

-- a zone as code has it
module _ (zones : List ℕ) (i : ℕ) {z : ℕ} (e : z ≡ get_or zones i 0) where
  pub zone_some : z ≢ 0 → has_zone zones i ≡ true
  zone_some ne = ap not (ne_eqb (get_or zones i 0) 0 (λ t. ne (e ∙ t)))

  pub zone_none : z ≡ 0 → has_zone zones i ≡ false
  zone_none t = ap not (eq-eqb (get_or zones i 0) 0 (sym e ∙ t))
