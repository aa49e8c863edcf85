-- How much there is at most: a sheet takes 16 + k * (head + 8 * longest) bytes, in version 1 of a head of 2 (`sheet-most`, and of a fan `fan-sheet-most`). Assumes nothing.
use Rattle.std.specs.Prelude.{ℕ, ◌+◌, ◌*◌, ◌≤◌, List, [], ◌∷◌, length}
use Rattle.std.proofs.Common.{subst, suc-mul, arith}
use Rattle.paths.specs.Fan.{Fan}
use Rattle.paths.specs.Mesh.{Mesh, width}
use Rattle.sheet.specs.Format.{HEAD, head, sheet_of, paths_of}
use Rattle.sheet.specs.Lengths.{paths_from-length, bytes_of, sheet-bytes}
use Rattle.sheet.specs.Lent.{Within, within_of}

pub bytes_most : (v longest : ℕ) (ps : List (List ℕ)) → Within longest ps → bytes_of v ps ≤ length ps * (head v + 8 * longest)
unfolding bytes_of
bytes_most v longest [] h = omega arith
bytes_most v longest (p ∷ l) h = omega (arith, bytes_most v longest l h.1, h.0, suc-mul (length l) (head v + 8 * longest))

pub sheet-most : (v kind size s longest : ℕ) (zones : List ℕ) (ps : List (List ℕ)) → Within longest ps
    → length (sheet_of v kind size s zones ps) ≤ HEAD + length ps * (head v + 8 * longest)
sheet-most v kind size s longest zones ps h = omega (arith, sheet-bytes v kind size s zones ps, bytes_most v longest ps h)

-- the sheet of a fan
pub fan-sheet-most : (m : Mesh) (s : ℕ) (targets places counts : List ℕ) → Fan m s targets places counts → (v kind size : ℕ) (zones : List ℕ)
    → length (sheet_of v kind size s zones (paths_of (width m) places counts (length targets))) ≤ HEAD + length targets * (head v + 8 * m.longest)
fan-sheet-most m s targets places counts f v kind size zones =
    let ps = paths_of (width m) places counts (length targets) in
    subst (λ (k : ℕ). length (sheet_of v kind size s zones ps) ≤ HEAD + k * (head v + 8 * m.longest)) (paths_from-length (width m) places counts 0 (length targets))
    (sheet-most v kind size s m.longest zones ps (within_of m s places counts targets f))
