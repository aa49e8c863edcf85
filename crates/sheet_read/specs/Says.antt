-- What the reader of version v tells, and what it leaves in the lent slices (`Read`, and with zones `ReadZoned`): it tells what the check of a sheet does, and 8 where
-- there is no room; and the same of a sheet of either version (`ReadEither`). Assumes nothing.
use Rattle.std.specs.Prelude.{ℕ, ◌≡◌, Bool, true, List, ◌++◌, ltb, length, drop, Result}
use Rattle.std.proofs.Math.Option.{Option}
use Rattle.scan.specs.Scan.{pick}
use Rattle.mesh.specs.Says.{short}
use Rattle.sheet.specs.Format.{version_of, count_at}
use Rattle.sheet.specs.Says.{flawed, before, settled, reading_told, version_number, version_by, head_told}
use Rattle.sheet.specs.declared.Flaw.{Flaw}
use Rattle.sheet.specs.declared.Flaw.TheVariants as flaw
use Rattle.sheet_check.specs.Says.{mesh_at, sheet_targets, sheet_places, sheet_counts, sheet_zones, head_against, paths_against, sheet_told}
use Rattle.sheet.specs.declared.Head.{Head}
use Rattle.sheet.specs.declared.Version.{Version}
use Rattle.sheet.specs.declared.Versioned.{Versioned}

-- 8: too few places or counts, or too few places for targets
abbrev pub lacking : List ℕ → (places counts targets : ℕ) → Bool
lacking l places counts targets = pick (short (mesh_at l) (count_at l) places counts) true (ltb targets (count_at l))

module _ (v : ℕ) (l : List ℕ) where
  abbrev pub read_against : (places counts targets : ℕ) → Option Flaw
  read_against places counts targets = before (head_against v l) (flawed (lacking l places counts targets) flaw.NoRoom (paths_against v l))

  -- the same with zones, of which too few are 8 too
  abbrev pub zoned_against : (places counts targets zones : ℕ) → Option Flaw
  zoned_against places counts targets zones =
      before (head_against v l) (flawed (ltb zones (count_at l)) flaw.NoRoom (flawed (lacking l places counts targets) flaw.NoRoom (paths_against v l)))

  -- the paths at the front of the lent slices, where nothing stands against it
  pub record Held (against : Option Flaw) (places counts targets places₁ counts₁ targets₁ : List ℕ) : Type 0 where
    pub placed : places₁ ≡ settled against (sheet_places v l ++ drop (length (sheet_places v l)) places) places
    pub counted : counts₁ ≡ settled against (sheet_counts v l ++ drop (length (sheet_counts v l)) counts) counts
    pub aimed : targets₁ ≡ settled against (sheet_targets v l ++ drop (length (sheet_targets v l)) targets) targets

  module _ (places counts targets : List ℕ) where
    abbrev pub reads_against : Option Flaw
    reads_against = read_against (length places) (length counts) (length targets)

    pub record Read (r : Result Head Flaw) (places₁ counts₁ targets₁ : List ℕ) : Type 0 where
      pub told : reading_told r ≡ sheet_told l reads_against
      pub held : Held reads_against places counts targets places₁ counts₁ targets₁

    module _ (zones : List ℕ) where
      abbrev pub zones_against : Option Flaw
      zones_against = zoned_against (length places) (length counts) (length targets) (length zones)

      pub record ReadZoned (r : Result Head Flaw) (places₁ counts₁ targets₁ zones₁ : List ℕ) : Type 0 where
        pub told : reading_told r ≡ sheet_told l zones_against
        pub held : Held zones_against places counts targets places₁ counts₁ targets₁
        pub zoned : zones₁ ≡ settled zones_against (sheet_zones v l ++ drop (length (sheet_zones v l)) zones) zones

-- a sheet of either version: its own, told by a number of it, and what the reader of that version tells and leaves
pub record ReadBy {V : Type 0} (number : V → ℕ) (l places counts targets zones : List ℕ) (r : Result (Versioned V) Flaw) (places₁ counts₁ targets₁ zones₁ : List ℕ) : Type 0 where
  pub version_is : version_by number r ≡ settled (zones_against (version_of l) l places counts targets zones) (version_of l) 0
  pub read : ReadZoned (version_of l) l places counts targets zones (head_told r) places₁ counts₁ targets₁ zones₁

abbrev pub ReadEither : (l places counts targets zones : List ℕ) (r : Result (Versioned Version) Flaw) (places₁ counts₁ targets₁ zones₁ : List ℕ) → Type 0
ReadEither l places counts targets zones r places₁ counts₁ targets₁ zones₁ = ReadBy version_number l places counts targets zones r places₁ counts₁ targets₁ zones₁
