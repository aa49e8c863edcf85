-- What survivors promises of a fan or a bundle (`Survived`): what comes back, and what the three columns hold afterwards. Where something stands against
-- what is asked or is found, no path is counted and the columns stay as they were. Definitions; assumes nothing.
use Rattle.std.specs.Prelude.{ℕ, ◌≡◌, Bool, true, List, Ok, Err, ltb, length, take}
use Rattle.std.proofs.Math.Option.{Option, none, some}
use Rattle.scan.specs.Scan.{pick, count}
use Rattle.answers.specs.declared.Refusal.{Refusal}
use Rattle.paths.specs.Rules.{span}
use Rattle.paths.specs.Finding.{Finding, clean, found}
use Rattle.paths.specs.Whole.{Failed, whole}
use Rattle.judge.specs.Says.{Asked, asked_against, asked_finding, asked_told}
use Rattle.columns.specs.Says.{ahead, marks}
use Rattle.survivors.specs.Tally.{Tally, Tallied, tallied, tally_told}

-- fewer than k of one of three
abbrev pub few : (k a b c : ℕ) → Bool
few k a b c = pick (ltb a k) true (pick (ltb b k) true (ltb c k))

-- the one where nothing stands against it and nothing is found, else the other
abbrev pub settled : {A : Type 0} → Option Refusal → Finding → A → A → A
settled none clean a b = a
settled none (found n i p) a b = b
settled (some why) f a b = b

-- whether a column is too short, or something else is lacking
abbrev pub lacking : (wanting : Bool) (targets ends hops wholes : List ℕ) → Bool
lacking wanting targets ends hops wholes = pick wanting true (few (length targets) (length ends) (length hops) (length wholes))

module _ (wanting : Bool) (q : Asked) (places counts : List ℕ) (fails : Failed) (ends hops wholes : List ℕ) where
  -- how many paths there are, and which of them are whole
  abbrev k : ℕ
  k = length q.targets

  abbrev is_whole : ℕ → Bool
  is_whole = whole (span q.rules) places counts fails

  abbrev settle : {A : Type 0} → A → A → A
  settle a b = settled (asked_against q places counts (lacking wanting q.targets ends hops wholes)) (asked_finding q places counts) a b

  -- number, path, place, and the count
  abbrev pub survivors_told : Tallied
  survivors_told = tallied (asked_told q places counts (lacking wanting q.targets ends hops wholes)) (settle (count is_whole k) 0)

  pub record Survived (r : Tally) (ends₁ hops₁ wholes₁ : List ℕ) : Type 0 where
    pub told : tally_told r ≡ survivors_told
    pub ended : ends₁ ≡ settle (ahead k q.targets ends) ends
    pub hopped : hops₁ ≡ settle (ahead k (take k counts) hops) hops
    pub marked : wholes₁ ≡ settle (ahead k (marks is_whole k) wholes) wholes

-- ---- with zones

-- fewer than k zones, or places for them
abbrev pub scarce : (k zones sites : ℕ) → Bool
scarce k zones sites = pick (ltb zones k) true (ltb sites k)

-- the one where paths are counted, else the other
abbrev pub counted : {A : Type 0} → Tally → A → A → A
counted (Ok c) a b = a
counted (Err f) a b = b

module _ (q : Asked) (places counts zones : List ℕ) (fails : Failed) (ends hops wholes sites : List ℕ) where
  -- too few zones, or places for them, are too few of a column
  abbrev pub wanting_of : Bool
  wanting_of = scarce (length q.targets) (length zones) (length sites)

  pub record SurvivedZoned (r : Tally) (ends₁ hops₁ wholes₁ sites₁ : List ℕ) : Type 0 where
    pub survived : Survived wanting_of q places counts fails ends hops wholes r ends₁ hops₁ wholes₁
    pub zoned : sites₁ ≡ settled (asked_against q places counts (lacking wanting_of q.targets ends hops wholes)) (asked_finding q places counts)
        (ahead (length q.targets) (take (length q.targets) zones) sites) sites
