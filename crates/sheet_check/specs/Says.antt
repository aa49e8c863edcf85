-- What the check of a sheet of version v tells: what stands against it in its order (`head_against`, `paths_against`, together `check_against`), and else the mesh, the
-- source and how many paths (`sheet_told`); and what is told of a sheet of either version (`Told`). Assumes nothing.
use Rattle.std.specs.Prelude.{ℕ, ◌-◌, ◌≡◌, Bool, true, false, not, List, eqb, ltb, length, Result}
use Rattle.std.proofs.Math.Option.{Option, none, some}
use Rattle.scan.specs.Scan.{pick}
use Rattle.paths.specs.Mesh.{Mesh}
use Rattle.mesh.specs.Kinds.{kind_of, mesh_of, planned}
use Rattle.judge.specs.Says.{Ruling, ruling, number_of, judge_told}
use Rattle.sheet.specs.Format.{HEAD, length_at, version_at, version_of, kind_at, size_at, count_at, source_at, paths_at, zones_at, places_of, counts_of, targets_of}
use Rattle.sheet.specs.Says.{flawed, before, settled, lone, ReadTold, tell_read, reading_told, version_told, head_told}
use Rattle.sheet.specs.declared.Flaw.{Flaw}
use Rattle.sheet.specs.declared.Flaw.TheVariants as flaw
use Rattle.sheet.specs.declared.Version.{Version}
use Rattle.sheet.specs.declared.Versioned.{Versioned}
use Rattle.sheet_take.specs.Says.{looked}

-- 30: too few bytes for the head, or a length that is not that of what follows it
abbrev pub cut : List ℕ → Bool
cut l = pick (ltb (length l) HEAD) true (not (eqb (length_at l) (length l - 4)))

-- 33
abbrev pub bad_count : (links k : ℕ) → Bool
bad_count links k = pick (eqb k 0) true (ltb links k)

-- 33, 37
abbrev pub count_against : (kind links k : ℕ) → Option Flaw
count_against kind links k = flawed (bad_count links k) flaw.Paths (flawed (lone kind k) flaw.Lone none)

-- what the judge says of paths from s
abbrev pub ruling_of : (kind size s : ℕ) (ps : List (List ℕ)) → Ruling
ruling_of kind size s ps = judge_told (kind_of kind) size s (targets_of s ps) (places_of s (mesh_of kind size).longest ps) (counts_of ps) false

-- what the judge says against a sheet: the request's own number with its place, else the finding with path and place. Nothing else comes out of one
-- (`Spoiled`)
abbrev pub flaw_in : Ruling → Flaw
flaw_in (ruling n i p) =
    pick (eqb n 2) flaw.SourceOut
    (pick (eqb n 5) (flaw.TargetOut p)
    (pick (eqb n 6) (flaw.TargetIsSource p)
    (pick (eqb n 7) (flaw.TargetAgain p)
    (pick (eqb n 22) (flaw.NotLinked i p)
    (pick (eqb n 24) (flaw.SeenAgain i p) flaw.NotAFan)))))

abbrev pub ruled : Ruling → Option Flaw
ruled r = pick (eqb (number_of r) 0) none (some (flaw_in r))

-- the mesh that the head tells
abbrev pub mesh_at : List ℕ → Mesh
mesh_at l = mesh_of (kind_at l) (size_at l)

-- what is told where so much stands against it
abbrev pub sheet_told : List ℕ → Option Flaw → ReadTold
sheet_told l against = tell_read against (kind_at l) (size_at l) (source_at l) (count_at l)

module _ (v : ℕ) (l : List ℕ) where
  -- the paths, and how they are lent
  abbrev pub sheet_paths : List (List ℕ)
  sheet_paths = paths_at v l HEAD (count_at l)

  abbrev pub sheet_targets : List ℕ
  sheet_targets = targets_of (source_at l) sheet_paths

  abbrev pub sheet_places : List ℕ
  sheet_places = places_of (source_at l) (mesh_at l).longest sheet_paths

  abbrev pub sheet_counts : List ℕ
  sheet_counts = counts_of sheet_paths

  abbrev pub sheet_zones : List ℕ
  sheet_zones = zones_at v l HEAD (count_at l)

  -- 30, 31, 32, 33, 37
  abbrev pub head_against : Option Flaw
  head_against =
      flawed (cut l) flaw.Cut
      (flawed (not (eqb (version_at l) v)) flaw.Version
      (flawed (not (planned (kind_at l) (size_at l))) flaw.NoMesh
      (count_against (kind_at l) (mesh_at l).links (count_at l))))

  -- what the judge says of the request and the paths
  abbrev pub sheet_ruling : Ruling
  sheet_ruling = ruling_of (kind_at l) (size_at l) (source_at l) sheet_paths

  -- 30 and 34 path by path, 36; 2, 5, 6, 7; 22 and 24 path by path
  abbrev pub paths_against : Option Flaw
  paths_against = before (looked v (mesh_at l).longest l HEAD 0 (count_at l)) (ruled sheet_ruling)

  -- what stands against a sheet of which nothing is taken out
  abbrev pub check_against : Option Flaw
  check_against = before head_against paths_against

-- what is told of a sheet of either version: its own, and what the reader of that version tells
pub record Told (l : List ℕ) (against : Option Flaw) (r : Result (Versioned Version) Flaw) : Type 0 where
  pub version_is : version_told r ≡ settled against (version_of l) 0
  pub told : reading_told (head_told r) ≡ sheet_told l against
