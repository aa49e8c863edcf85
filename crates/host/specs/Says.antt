-- What the calls for C and C++ that fill slices tell, and that they leave the slices as the library's routine does.
use Rattle.std.specs.Prelude.{ℕ, ◌≡◌, List, ltb, length, Result, ⊤}
use Rattle.std.proofs.Math.Option.{Option}
use Rattle.answers.specs.Told.{tell}
use Rattle.answers.specs.declared.Refusal.{Refusal}
use Rattle.paths.specs.Whole.{Failed}
use Rattle.requests.specs.Planned.{PlannedAs}
use Rattle.sheet.specs.Format.{VERSION, version_of, kind_at, size_at, source_at, count_at}
use Rattle.sheet.specs.Says.{settled, tell_written, tell_read}
use Rattle.sheet.specs.declared.Flaw.{Flaw}
use Rattle.sheet.specs.declared.Head.{Head}
use Rattle.sheet.specs.declared.Version.{Version}
use Rattle.sheet.specs.declared.Versioned.{Versioned}
use Rattle.sheet_write.specs.Says.{write_against, sheet, Wrote, writes_against, sheet_in, WroteZoned}
use Rattle.sheet_check.specs.Says.{sheet_told}
use Rattle.sheet_read.specs.Says.{reads_against, Read, zones_against, ReadEither}
use Rattle.sheet_move.specs.Says.{moved_bytes, moves_against, Moved}
use Rattle.judge.specs.Says.{Asked}
use Rattle.survivors.specs.Says.{survivors_told, wanting_of, SurvivedZoned}
use Rattle.judge.specs.declared.Fault.{Fault}
use Rattle.shapes.specs.Shapes.{answer_in, tally_in, written_in, reading_in, versioned_in}
use Rattle.shapes.specs.declared.GustAnswer.{GustAnswer}
use Rattle.shapes.specs.declared.GustReading.{GustReading}
use Rattle.shapes.specs.declared.GustZonedReading.{GustZonedReading}

-- k paths of w places each, which are to be P: the value is k
pub record PlannedIn (o : Option Refusal) (k w : ℕ) (P : (places counts : List ℕ) → Type 0) (places counts : List ℕ) (r : GustAnswer) (places₁ counts₁ : List ℕ) : Type 0 where
  pub told : r ≡ answer_in (tell o 0 k)
  pub answer : Result ⊤ Refusal
  pub left : PlannedAs o k w P places counts answer places₁ counts₁

pub record SurvivedIn (q : Asked) (places counts zones : List ℕ) (fails : Failed) (ends hops wholes sites : List ℕ) (r : GustAnswer) (ends₁ hops₁ wholes₁ sites₁ : List ℕ) : Type 0 where
  pub told : r ≡ tally_in (survivors_told (wanting_of q places counts zones fails ends hops wholes sites) q places counts fails ends hops wholes)
  pub tally : Result ℕ Fault
  pub left : SurvivedZoned q places counts zones fails ends hops wholes sites tally ends₁ hops₁ wholes₁ sites₁

pub record WroteIn (kind size s : ℕ) (targets places counts out : List ℕ) (r : GustAnswer) (out₁ : List ℕ) : Type 0 where
  pub told : r ≡ written_in (tell_written (write_against kind size s targets places counts out) (length (sheet kind size s targets places counts out)))
  pub written : Result ℕ Flaw
  pub left : Wrote kind size s targets places counts out written out₁

pub record ReadIn (l places counts targets : List ℕ) (r : GustReading) (places₁ counts₁ targets₁ : List ℕ) : Type 0 where
  pub told : r ≡ reading_in (tell_read (reads_against VERSION l places counts targets) (kind_at l) (size_at l) (source_at l) (count_at l))
  pub reading : Result Head Flaw
  pub left : Read VERSION l places counts targets reading places₁ counts₁ targets₁

-- ---- sheets of either version, with zones

pub record WroteZonedIn (v kind size s : ℕ) (targets places counts zones out : List ℕ) (r : GustAnswer) (out₁ : List ℕ) : Type 0 where
  pub told : r ≡ written_in (tell_written (writes_against v (ltb (length zones) (length targets)) zones kind size s targets places counts out)
      (length (sheet_in v (ltb (length zones) (length targets)) zones kind size s targets places counts out)))
  pub written : Result ℕ Flaw
  pub left : WroteZoned v kind size s targets places counts zones out written out₁

pub record ReadZonedIn (l places counts targets zones : List ℕ) (r : GustZonedReading) (places₁ counts₁ targets₁ zones₁ : List ℕ) : Type 0 where
  pub told : r ≡ versioned_in (settled (zones_against (version_of l) l places counts targets zones) (version_of l) 0) (sheet_told l (zones_against (version_of l) l places counts targets zones))
  pub reading : Result (Versioned Version) Flaw
  pub left : ReadEither l places counts targets zones reading places₁ counts₁ targets₁ zones₁

pub record MovedIn (v u : ℕ) (l out : List ℕ) (r : GustAnswer) (out₁ : List ℕ) : Type 0 where
  pub told : r ≡ written_in (tell_written (moves_against v u l out) (length (moved_bytes v u l)))
  pub written : Result ℕ Flaw
  pub left : Moved v u l out written out₁
