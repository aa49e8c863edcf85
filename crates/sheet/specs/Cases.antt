-- Case I (`case_i`): the sheet of the path from 0 to 1 in the cube of 1 dimension, byte by byte; and the fan of those bytes. The same of version 2, with zone
-- 258 (`case_zoned`). Assumes nothing.
use Rattle.std.specs.Prelude.{ℕ, ◌≡◌, refl, List, [], ◌∷◌, ◌++◌, replicate}
use Rattle.octets.specs.Big.{big, number}
use Rattle.sheet.specs.Format.{relays_bytes, path_bytes, paths_bytes, body_of, sheet_of, relays_at, paths_at, zones_at}

-- 00 00 00 16 01 01 01 01, eight 00, 00 01, seven 00, 01
abbrev pub sheet_i : List ℕ
sheet_i = (0 ∷ 0 ∷ 0 ∷ 22 ∷ 1 ∷ 1 ∷ 1 ∷ 1 ∷ []) ++ replicate 8 0 ++ (0 ∷ 1 ∷ []) ++ replicate 7 0 ++ (1 ∷ [])

pub record CaseI : Type 0 where
  pub bytes : sheet_of 1 1 1 0 [] ((1 ∷ []) ∷ []) ≡ sheet_i
  pub paths : paths_at 1 sheet_i 16 1 ≡ (1 ∷ []) ∷ []

pub case_i : CaseI
unfolding sheet_of body_of paths_bytes path_bytes relays_bytes big paths_at relays_at number
case_i = record { bytes = refl; paths = refl }

-- 00 00 00 1a 02 01 01 01, eight 00, 00 01 00 00 01 02, seven 00, 01
abbrev pub sheet_zoned : List ℕ
sheet_zoned = (0 ∷ 0 ∷ 0 ∷ 26 ∷ 2 ∷ 1 ∷ 1 ∷ 1 ∷ []) ++ replicate 8 0 ++ (0 ∷ 1 ∷ 0 ∷ 0 ∷ 1 ∷ 2 ∷ []) ++ replicate 7 0 ++ (1 ∷ [])

pub record CaseZoned : Type 0 where
  pub bytes : sheet_of 2 1 1 0 (258 ∷ []) ((1 ∷ []) ∷ []) ≡ sheet_zoned
  pub paths : paths_at 2 sheet_zoned 16 1 ≡ (1 ∷ []) ∷ []
  pub zones : zones_at 2 sheet_zoned 16 1 ≡ 258 ∷ []

pub case_zoned : CaseZoned
unfolding sheet_of body_of paths_bytes path_bytes relays_bytes big paths_at zones_at relays_at number
case_zoned = record { bytes = refl; paths = refl; zones = refl }
