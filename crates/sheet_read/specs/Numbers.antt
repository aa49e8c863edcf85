-- Every number that the reader can tell (`read-numbers`, with zones `zoned-numbers`): 8, or one that the check of a sheet can. Assumes nothing.
use Rattle.std.specs.Prelude.{ℕ, ◌≡◌, Bool, true, false, List, ◌∷◌, ltb}
use Rattle.std.proofs.Math.Option.{Option, none, some}
use Rattle.sheet.specs.Format.{count_at}
use Rattle.scan.specs.Laws.{has_first, has_rest}
use Rattle.scan.specs.Scan.{has}
use Rattle.sheet.specs.Says.{flawed, before, read_number}
use Rattle.sheet.specs.declared.Flaw.{Flaw}
use Rattle.sheet.specs.declared.Flaw.TheVariants as flaw
use Rattle.sheet_check.specs.Says.{head_against, paths_against, check_against, sheet_told}
use Rattle.sheet_check.specs.Spoiled.{check_numbers, Listed, listed-head, check_numbers_lem}
use Rattle.sheet_read.specs.Says.{lacking, read_against, zoned_against}

abbrev pub read_numbers : List ℕ
read_numbers = 8 ∷ check_numbers

module _ (v : ℕ) (l : List ℕ) where
  abbrev Read : Option Flaw → Type 0
  Read o = has read_numbers (read_number (sheet_told l o)) ≡ true

  wanting : (o : Option Flaw) → Listed l o → Read (before o (some flaw.NoRoom))
  wanting none h = has_first 8 check_numbers
  wanting (some f) h = has_rest 8 check_numbers (read_number (sheet_told l (some f))) h

  room : (b : Bool) → Read (before (head_against v l) (flawed b flaw.NoRoom (paths_against v l)))
  room true = wanting (head_against v l) (listed-head v l)
  room false = has_rest 8 check_numbers (read_number (sheet_told l (check_against v l))) (check_numbers_lem v l)

  pub read-numbers : (places counts targets : ℕ) → Read (read_against v l places counts targets)
  read-numbers places counts targets = room (lacking l places counts targets)

  pub zoned-numbers : (places counts targets zones : ℕ) → Read (zoned_against v l places counts targets zones)
  zoned-numbers places counts targets zones = go (ltb zones (count_at l))
    where
      go : (b : Bool) → Read (before (head_against v l) (flawed b flaw.NoRoom (flawed (lacking l places counts targets) flaw.NoRoom (paths_against v l))))
      go true = wanting (head_against v l) (listed-head v l)
      go false = room (lacking l places counts targets)
