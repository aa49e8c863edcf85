-- Why the zones taken out of a sheet are its zones: the loop over its paths (`Zoning`). Assumes nothing.
use Rattle.std.specs.Prelude.{ℕ, zero, suc, ◌+◌, ◌≤◌, ◌<◌, ◌≡◌, refl, List, [], ◌∷◌, ◌++◌, length, set}
use Rattle.std.proofs.Common.{sym, ap, ap₂, ◌∙◌, add-one, arith, length-set}
use Rattle.std.proofs.lemmas.List.Edits.{sets}
use Rattle.sheet.specs.Format.{HEAD, hops_at, after, zone_at, zones_at}
use Rattle.sheet.specs.Lengths.{zones_length}
use Rattle.sheet.specs.Pieces.{after-put}
use Rattle.sheet_take.specs.Along.{Along, offset, along_starts, along-fine, along-more}
use Rattle.sheet_take.specs.Looking.{Fine}
use Rattle.sheet_take.specs.Needs.{Zoned}

zones_more : (v : ℕ) (l : List ℕ) (at i : ℕ) → zones_at v l at (suc i) ≡ zones_at v l at i ++ (zone_at v l (offset v l at i) ∷ [])
unfolding zones_at offset
zones_more v l at zero = refl
zones_more v l at (suc i) = ap (λ (r : List ℕ). zone_at v l at ∷ r) (zones_more v l (after v l at) i)

-- the zones of the first i paths are taken
pub record Zoning (v : ℕ) (l : List ℕ) (k : ℕ) (zones₀ zones : List ℕ) (at i : ℕ) : Type 0 where
  pub asked : Zoned v l k (length zones₀)
  pub along : Along v asked.longest l k at i
  pub long : length zones ≡ length zones₀
  pub is : zones ≡ sets zones₀ 0 (zones_at v l HEAD i)

pub zoning_starts : {v : ℕ} {l : List ℕ} {k : ℕ} {zones : List ℕ} → Zoned v l k (length zones) → Zoning v l k zones zones HEAD 0
unfolding zones_at
zoning_starts a = record { asked = a; along = along_starts a.sound; long = refl; is = refl }

module _ {v : ℕ} {l : List ℕ} {k : ℕ} {zones₀ zones : List ℕ} {at i : ℕ} (q : Zoning v l k zones₀ zones at i) where
  pub zoning_fine : i < k → Fine v q.asked.longest l at
  zoning_fine h = along-fine q.along h

  pub zoning_room : i < k → (i < length zones) × (hops_at l at ≤ 206)
  zoning_room h = (omega (arith, q.asked.room, q.long), omega (arith, (zoning_fine h).short, q.asked.small))

  pub zoning_more : {zone to : ℕ} → i < k → zone ≡ zone_at v l at → to ≡ after v l at → Zoning v l k zones₀ (set zones i zone) to (i + 1)
  zoning_more {zone} h e t = record {
    asked = q.asked;
    along = along-more q.along h t;
    long = length-set zones i zone ∙ q.long;
    is =
        ap₂ (λ (y : List ℕ) (z : ℕ). set y i z) q.is (e ∙ ap (zone_at v l) q.along.at_is)
        ∙ after-put (zones_at v l HEAD i) (zone_at v l (offset v l HEAD i) ∷ []) zones₀ 0 i (omega (arith, zones_length v l HEAD i))
        ∙ ap (sets zones₀ 0) (sym (zones_more v l HEAD i) ∙ ap (zones_at v l HEAD) (sym (add-one i)));
  }

  pub zoning_ends : k ≤ i → zones ≡ sets zones₀ 0 (zones_at v l HEAD k)
  zoning_ends h = q.is ∙ ap (λ (n : ℕ). sets zones₀ 0 (zones_at v l HEAD n)) (omega (arith, q.along.within))
