-- What is told says what stands against a sheet: a refusal is the flaw that does (`told_flaw`), and a fan that nothing does (`told_none`); and the version is told where nothing does
-- (`told_version`). Assumes nothing.
use Rattle.std.specs.Prelude.{ℕ, ◌≡◌, refl, List, Result, Ok, Err}
use Rattle.std.proofs.Common.{sym, ap}
use Rattle.std.proofs.Math.Option.{Option, none, some}
use Rattle.std.proofs.lemmas.Bool.{eqb-false}
use Rattle.sheet.specs.Says.{flaw_number, settled, reads, read_number, read_path, read_place, tell_read, reading_told, version_by, head_told, with_version}
use Rattle.sheet.specs.Flaws.{flaw_same, flaw_some, no_flaw}
use Rattle.sheet.specs.declared.Flaw.{Flaw}
use Rattle.sheet.specs.declared.Head.{Head}
use Rattle.sheet_check.specs.Says.{sheet_told}

module _ (l : List ℕ) where
  pub told_flaw : (o : Option Flaw) {f : Flaw} → tell_read (some f) 0 0 0 0 ≡ sheet_told l o → some f ≡ o
  told_flaw none {f} e = absurd (eqb-false (flaw_number f) 0 (flaw_some f) (ap read_number e))
  told_flaw (some x) {f} e = ap some (flaw_same f x (ap read_number e) (ap read_path e) (ap read_place e))

  pub told_none : (o : Option Flaw) {kind size s k : ℕ} → reads 0 0 0 kind size s k ≡ sheet_told l o → o ≡ none
  told_none none e = refl
  told_none (some f) e = absurd (eqb-false (flaw_number f) 0 (flaw_some f) (sym (ap read_number e)))

  -- of a version of any kind, told by its number
  pub told_version : (o : Option Flaw) {V : Type 0} (number : V → ℕ) (v : V) (x : Result Head Flaw) → reading_told x ≡ sheet_told l o → version_by number (with_version v x) ≡ settled o (number v) 0
  told_version none number v (Ok h) e = refl
  told_version none number v (Err f) e = no_flaw {f = f} (told_flaw none {f = f} e)
  told_version (some f) number v (Ok h) e = no_flaw {f = f} (told_none (some f) {kind = h.mesh.kind} {size = h.mesh.size} {s = h.source} {k = h.paths} e)
  told_version (some f) number v (Err g) e = refl

-- the reading is as it was
pub reading-kept : {V : Type 0} (v : V) (x : Result Head Flaw) → head_told (with_version v x) ≡ x
reading-kept v (Ok h) = refl
reading-kept v (Err f) = refl
