-- The columns of the paths of a fan or a bundle, gathered for so many entries (`Gathers`), and how many there are to write. Definitions; assumes nothing.
use Rattle.std.specs.Prelude.{ℕ, ◌≤◌, ◌<◌, ◌≡◌, List, ◌++◌, Ok, Err, eqb, length, drop, get_or, min}
use Rattle.paths.specs.Whole.{Failed}
use Rattle.mesh.specs.Limits.{any_links}
use Rattle.judge.specs.Says.{Asked}
use Rattle.survivors.specs.Tally.{Tally, tally_told}
use Rattle.entries.specs.Says.{entry_of, path_entry, entries, settle, listed_told}
use Rattle.entries.specs.declared.Entry.{Entry}
use Rattle.entries.specs.declared.gathered.Gathered.{Gathered}

-- the most entries: no relay has more links
abbrev pub MOST : ℕ
MOST = any_links

-- as many as there is room for, up to the most
unfoldable pub capped : ℕ → ℕ
capped room = min room MOST

-- the entries that a tally comes with, of k paths
abbrev pub taken_of : Tally → ℕ → ℕ
taken_of (Ok c) k = k
taken_of (Err f) k = 0

-- entry i of the columns: a path is whole where its mark is 1
abbrev pub entry_at : Gathered → ℕ → Entry
entry_at g i = entry_of (get_or g.ends i 0) (get_or g.hops i 0) (eqb (get_or g.wholes i 0) 1) (get_or g.zones i 0)

pub record Gathers (q : Asked) (places counts zones : List ℕ) (fails : Failed) (room : ℕ) (g : Gathered) : Type 0 where
  pub told : tally_told g.tally ≡ listed_told q places counts zones fails room
  pub taken : g.k ≡ settle q places counts zones fails room (length q.targets) 0
  pub each : (i : ℕ) → i < g.k → entry_at g i ≡ path_entry q places counts zones fails i
  pub small : g.k ≤ MOST
  pub fits : g.k ≤ room

-- a list with the gathered entries at its front
abbrev pub stored : Gathered → List Entry → List Entry
stored g out = entries (entry_at g) g.k ++ drop g.k out
