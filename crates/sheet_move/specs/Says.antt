-- What a move of a sheet from version v to version u tells, and what it leaves in the lent slice (`Moved`): the paths and zones of the sheet written in the other version. Assumes nothing.
use Rattle.std.specs.Prelude.{ℕ, ◌≡◌, List, ◌++◌, ltb, length, drop, Result}
use Rattle.std.proofs.Math.Option.{Option, none}
use Rattle.sheet.specs.Format.{sheet_of, kind_at, size_at, count_at, source_at}
use Rattle.sheet.specs.Says.{flawed, before, settled, tell_written, written_told}
use Rattle.sheet.specs.declared.Flaw.{Flaw}
use Rattle.sheet.specs.declared.Flaw.TheVariants as flaw
use Rattle.sheet_put.specs.Stray.{stray_in}
use Rattle.sheet_write.specs.Says.{stray_flaw}
use Rattle.sheet_check.specs.Says.{sheet_paths, sheet_zones, check_against}

module _ (v u : ℕ) (l : List ℕ) where
  -- the sheet in version u
  abbrev pub moved_bytes : List ℕ
  moved_bytes = sheet_of u (kind_at l) (size_at l) (source_at l) (sheet_zones v l) (sheet_paths v l)

  -- 38, and then room
  abbrev pub lay_against : List ℕ → Option Flaw
  lay_against out = before (stray_flaw (stray_in u (sheet_zones v l) (count_at l))) (flawed (ltb (length out) (length moved_bytes)) flaw.NoRoom none)

  -- the reader's numbers but its 8 before
  abbrev pub moves_against : List ℕ → Option Flaw
  moves_against out = before (check_against v l) (lay_against out)

  pub record Moved (out : List ℕ) (r : Result ℕ Flaw) (out₁ : List ℕ) : Type 0 where
    pub told : written_told r ≡ tell_written (moves_against out) (length moved_bytes)
    pub held : out₁ ≡ settled (moves_against out) (moved_bytes ++ drop (length moved_bytes) out) out
