-- What the two planners of the cube promise: what stands against a request (`plan_against`, `through_against`), and what comes back and stands in the
-- lent slices afterwards: `Planned` of the requests, and through doors `PlannedThrough`.
use Rattle.std.specs.Prelude.{ℕ, ◌*◌, ◌^◌, ◌≤◌, ◌<◌, ◌≡◌, Bool, true, not, List, Result, ⊤, ◌++◌, leb, ltb, length}
use Rattle.std.proofs.Math.Option.{Option, none}
use Rattle.std.specs.Int.Count.{ones}
use Rattle.bits.specs.Bit.{bit, flip}
use Rattle.scan.specs.Scan.{pick}
use Rattle.answers.specs.Order.{Fault, first, size_faults, request_faults, door_faults, room_faults}
use Rattle.answers.specs.declared.Refusal.{Refusal}
use Rattle.paths.specs.Mesh.{width}
use Rattle.paths.specs.Fan.{relay, hops}
use Rattle.requests.specs.Planned.{Planned}
use Rattle.cube.specs.Cube.{known, cube}

-- fewer places than the paths take, or fewer counts than paths
abbrev pub short : (n : ℕ) (targets places counts : List ℕ) → Bool
short n targets places counts = pick (ltb (length places) (length targets * width (cube n))) true (ltb (length counts) (length targets))

-- doors that the cube does not have, or fewer of them than targets
abbrev pub bad_doors : (n doors : ℕ) (targets : List ℕ) → Bool
bad_doors n doors targets = pick (leb (2 ^ n) doors) true (ltb (ones doors) (length targets))

-- what may stand against a request: 1 to 7, then 8; through doors 1 to 7, 11, then 8
abbrev pub early_faults : (n s : ℕ) (targets : List ℕ) → List Fault
early_faults n s targets = size_faults (not (known n)) ++ request_faults (2 ^ n) n s targets

abbrev pub plan_faults : (n s : ℕ) (targets places counts : List ℕ) → List Fault
plan_faults n s targets places counts = early_faults n s targets ++ room_faults (short n targets places counts)

abbrev pub through_faults : (n s doors : ℕ) (targets places counts : List ℕ) → List Fault
through_faults n s doors targets places counts = early_faults n s targets ++ door_faults (bad_doors n doors targets) ++ room_faults (short n targets places counts)

abbrev pub plan_against : (n s : ℕ) (targets places counts : List ℕ) → Option Refusal
plan_against n s targets places counts = first (plan_faults n s targets places counts)

abbrev pub through_against : (n s doors : ℕ) (targets places counts : List ℕ) → Option Refusal
through_against n s doors targets places counts = first (through_faults n s doors targets places counts)

-- each first hop is through an open door, and no path meets a neighbour of s behind a shut one but as its own end
pub record Through (n s doors : ℕ) (targets places counts : List ℕ) : Type 0 where
  pub first_hop : (i : ℕ) → i < length targets → (d : ℕ) × (bit d doors ≡ 1) × (relay (width (cube n)) places i 1 ≡ flip s d)
  pub shuns : (i p d : ℕ) → i < length targets → p ≤ hops counts i → d < n → bit d doors ≡ 0
      → relay (width (cube n)) places i p ≡ flip s d → p ≡ hops counts i

-- what comes back and what the slices hold, through doors
pub record PlannedThrough (o : Option Refusal) (n s doors : ℕ) (targets places counts : List ℕ) (r : Result ⊤ Refusal) (places₁ counts₁ : List ℕ) : Type 0 where
  pub planned : Planned o (cube n) s targets places counts r places₁ counts₁
  pub through : o ≡ none → Through n s doors targets places₁ counts₁
