-- What the writer tells, and what it leaves in the lent slice, over the version: of slices that are judged (`WroteIn`, `WroteZoned`, of version 1 `Wrote`), and of paths that are
-- known to be a fan (`PutIn`, `Laid`, of version 1 `Put`). Assumes nothing.
use Rattle.std.specs.Prelude.{ℕ, ◌≡◌, Bool, true, false, not, List, [], ◌++◌, eqb, ltb, length, drop, Result}
use Rattle.std.proofs.Math.Option.{Option, none, some}
use Rattle.scan.specs.Scan.{Spot, nowhere, at, pick}
use Rattle.paths.specs.Mesh.{width}
use Rattle.mesh.specs.Kinds.{kind_of, mesh_of, planned}
use Rattle.judge.specs.Says.{number_of, judge_told}
use Rattle.sheet.specs.Format.{VERSION, ZONED, sheet_of, paths_of}
use Rattle.sheet.specs.Says.{flawed, before, settled, lone, tell_written, written_told}
use Rattle.sheet.specs.declared.Flaw.{Flaw}
use Rattle.sheet.specs.declared.Flaw.TheVariants as flaw
use Rattle.sheet_put.specs.Stray.{stray_in}

-- 38
abbrev pub stray_flaw : Spot → Option Flaw
stray_flaw nowhere = none
stray_flaw (at i) = some (flaw.Zone i)

-- the sheet of k paths with their zones
abbrev pub bytes_in : (v : ℕ) (zones : List ℕ) (kind size s k : ℕ) (places counts : List ℕ) → List ℕ
bytes_in v zones kind size s k places counts = sheet_of v kind size s zones (paths_of (width (mesh_of kind size)) places counts k)

-- the same of version 1
abbrev pub bytes : (kind size s k : ℕ) (places counts : List ℕ) → List ℕ
bytes kind size s k places counts = bytes_in VERSION [] kind size s k places counts

module _ (v : ℕ) (zones : List ℕ) (kind size s k : ℕ) (places counts out : List ℕ) where
  abbrev pub lay_against : Option Flaw
  lay_against = flawed (ltb (length out) (length (bytes_in v zones kind size s k places counts))) flaw.NoRoom none

  -- written where it fits
  pub record Laid (r : Result ℕ Flaw) (out₁ : List ℕ) : Type 0 where
    pub told : written_told r ≡ tell_written lay_against (length (bytes_in v zones kind size s k places counts))
    pub held : out₁ ≡ settled lay_against (bytes_in v zones kind size s k places counts ++ drop (length (bytes_in v zones kind size s k places counts)) out) out

  -- 38, and then room
  abbrev pub put_against : Option Flaw
  put_against = before (stray_flaw (stray_in v zones k)) lay_against

  -- written where it fits, and its version has a place for its zones
  pub record PutIn (r : Result ℕ Flaw) (out₁ : List ℕ) : Type 0 where
    pub told : written_told r ≡ tell_written put_against (length (bytes_in v zones kind size s k places counts))
    pub held : out₁ ≡ settled put_against (bytes_in v zones kind size s k places counts ++ drop (length (bytes_in v zones kind size s k places counts)) out) out

-- the same of version 1, without zones
abbrev pub Put : (kind size s k : ℕ) (places counts out : List ℕ) (r : Result ℕ Flaw) (out₁ : List ℕ) → Type 0
Put kind size s k places counts out r out₁ = Laid VERSION [] kind size s k places counts out r out₁

-- what the judge says of a mesh that has sheets, where more is lacking or not: 0 of a fan, 8 where it lacks room, else 35; of another mesh 35
abbrev pub ruled_in : (lacking : Bool) (kind size s : ℕ) (targets places counts : List ℕ) → ℕ
ruled_in lacking kind size s targets places counts = pick (planned kind size) (number_of (judge_told (kind_of kind) size s targets places counts lacking)) 1

abbrev pub ruled : (kind size s : ℕ) (targets places counts : List ℕ) → ℕ
ruled kind size s targets places counts = ruled_in false kind size s targets places counts

-- what is told of it, where a fan is to be written
abbrev pub ruling_against : ℕ → Option Flaw
ruling_against n = pick (eqb n 0) none (pick (eqb n 8) (some flaw.NoRoom) (some flaw.NotAFan))

-- 31: neither version
abbrev pub unknown : ℕ → Bool
unknown v = not (pick (eqb v VERSION) true (eqb v ZONED))

module _ (v : ℕ) (lacking : Bool) (zones : List ℕ) (kind size s : ℕ) (targets places counts out : List ℕ) where
  -- the sheet of the paths
  abbrev pub sheet_in : List ℕ
  sheet_in = bytes_in v zones kind size s (length targets) places counts

  -- what the judge says, and then zones and room
  abbrev pub fan_against : Option Flaw
  fan_against =
      pick (eqb (ruled_in lacking kind size s targets places counts) 0) (put_against v zones kind size s (length targets) places counts out)
      (pick (eqb (ruled_in lacking kind size s targets places counts) 8) (some flaw.NoRoom) (some flaw.NotAFan))

  -- 37 before everything else, and then 31
  abbrev pub writes_against : Option Flaw
  writes_against = flawed (lone kind (length targets)) flaw.Lone (flawed (unknown v) flaw.Version fan_against)

  pub record WroteIn (r : Result ℕ Flaw) (out₁ : List ℕ) : Type 0 where
    pub told : written_told r ≡ tell_written writes_against (length sheet_in)
    pub held : out₁ ≡ settled writes_against (sheet_in ++ drop (length sheet_in) out) out

-- the writer with zones: too few are lacking
abbrev pub WroteZoned : (v kind size s : ℕ) (targets places counts zones out : List ℕ) (r : Result ℕ Flaw) (out₁ : List ℕ) → Type 0
WroteZoned v kind size s targets places counts zones out r out₁ = WroteIn v (ltb (length zones) (length targets)) zones kind size s targets places counts out r out₁

-- the writer of version 1
module _ (kind size s : ℕ) (targets places counts out : List ℕ) where
  -- the sheet of the paths
  abbrev pub sheet : List ℕ
  sheet = sheet_of VERSION kind size s [] (paths_of (width (mesh_of kind size)) places counts (length targets))

  -- 37 before everything else; what the judge says, and then room
  abbrev pub write_against : Option Flaw
  write_against =
      flawed (lone kind (length targets)) flaw.Lone
      (pick (eqb (ruled kind size s targets places counts) 0) (flawed (ltb (length out) (length sheet)) flaw.NoRoom none)
      (pick (eqb (ruled kind size s targets places counts) 8) (some flaw.NoRoom) (some flaw.NotAFan)))

  pub record Wrote (r : Result ℕ Flaw) (out₁ : List ℕ) : Type 0 where
    pub told : written_told r ≡ tell_written write_against (length sheet)
    pub held : out₁ ≡ settled write_against (sheet ++ drop (length sheet) out) out
