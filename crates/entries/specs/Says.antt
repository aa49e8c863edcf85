-- What survivors over a list of entries promises of a fan or a bundle (`Listed`): what comes back, and what the list holds afterwards. Where something
-- stands against what is asked or is found, no path is counted and the list stays as it was. Definitions; assumes nothing.
use Rattle.std.specs.Prelude.{ℕ, zero, suc, ◌≡◌, Bool, List, [], ◌∷◌, ◌++◌, length, drop, get_or}
use Rattle.scan.specs.Scan.{count}
use Rattle.paths.specs.Rules.{span}
use Rattle.paths.specs.Fan.{hops}
use Rattle.paths.specs.Whole.{Failed, whole}
use Rattle.judge.specs.Says.{Asked, asked_against, asked_finding, asked_told}
use Rattle.survivors.specs.Tally.{Tally, Tallied, tallied, tally_told}
use Rattle.survivors.specs.Says.{settled, scarce}
use Rattle.entries.specs.declared.Entry.{Entry}

-- ---- entries

abbrev pub entry_of : (target hops : ℕ) (whole : Bool) (zone : ℕ) → Entry
entry_of t h w z = record { target = t; hops = h; whole = w; zone = z }

-- the entry of path i: its target, its hops, whether it is whole, and its zone
abbrev pub path_entry : (q : Asked) (places counts zones : List ℕ) (fails : Failed) (i : ℕ) → Entry
path_entry q places counts zones fails i = entry_of (get_or q.targets i 0) (hops counts i) (whole (span q.rules) places counts fails i) (get_or zones i 0)

-- the entries f 0 to f (k - 1)
unfoldable pub entries : (ℕ → Entry) → ℕ → List Entry
entries f zero = []
entries f (suc k) = entries f k ++ (f k ∷ [])

-- ---- what comes back

module _ (q : Asked) (places counts zones : List ℕ) (fails : Failed) (room : ℕ) where
  -- whether there are too few zones, or the list of so many entries is too short
  abbrev pub scant : Bool
  scant = scarce (length q.targets) (length zones) room

  -- the one where nothing stands against a list of so many entries and nothing is found, else the other
  abbrev pub settle : {A : Type 0} → A → A → A
  settle a b = settled (asked_against q places counts scant) (asked_finding q places counts) a b

  -- number, path, place, and the count
  abbrev pub listed_told : Tallied
  listed_told = tallied (asked_told q places counts scant) (settle (count (whole (span q.rules) places counts fails) (length q.targets)) 0)

module _ (q : Asked) (places counts zones : List ℕ) (fails : Failed) (out : List Entry) where
  pub record Listed (r : Tally) (out₁ : List Entry) : Type 0 where
    pub told : tally_told r ≡ listed_told q places counts zones fails (length out)
    pub listed : out₁
        ≡ settle q places counts zones fails (length out) (entries (path_entry q places counts zones fails) (length q.targets) ++ drop (length q.targets) out) out
