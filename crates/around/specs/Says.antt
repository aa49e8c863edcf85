-- What a way round is asked and what it promises: its faults in their order (`round_faults_in`); then, over paths of relays that run, that there is none, or a shortest one,
-- written as a plain route is (`Rounded`). Definitions; assumes nothing.
use Rattle.std.specs.Prelude.{ℕ, ◌≡◌, Bool, true, ◌⊎◌, List, Result, Ok, Err, ◌++◌, ltb, length}
use Rattle.std.proofs.Math.Option.{Option, none, some}
use Rattle.scan.specs.Scan.{pick, has}
use Rattle.answers.specs.Order.{Fault, first, halt_faults, room_faults}
use Rattle.answers.specs.declared.Refusal.{Refusal}
use Rattle.answers.specs.declared.Refusal.TheVariants.{NoPath}
use Rattle.paths.specs.Mesh.{Mesh}
use Rattle.paths.specs.Ways.{Way, Shortest}
use Rattle.mesh.specs.Kinds.{Kind}
use Rattle.mesh.specs.Says.{distance_faults_in}
use Rattle.around_search.specs.Trace.{Traced}

-- ---- what may stand against it

-- those of a distance, then 43, 44
abbrev pub ends_against : (k : Kind) (n s t : ℕ) (stopped : List ℕ) → List Fault
ends_against k n s t stopped = distance_faults_in k n s t ++ halt_faults (has stopped s) (has stopped t)

-- and then 8
abbrev pub round_faults_in : (k : Kind) (n s t : ℕ) (stopped : List ℕ) (room : Bool) → List Fault
round_faults_in k n s t stopped room = ends_against k n s t stopped ++ room_faults room

abbrev pub round_against : (k : Kind) (n s t : ℕ) (stopped : List ℕ) (room : Bool) → Option Refusal
round_against k n s t stopped room = first (round_faults_in k n s t stopped room)

-- fewer places than relays, in the working room or in the slice for the path
abbrev pub round_short : (m : Mesh) (room out : ℕ) → Bool
round_short m room out = pick (ltb room m.relays) true (ltb out m.relays)

-- ---- what is promised

-- no path joins the two: 45, and the slice for the path is as it was
pub record Nowhere (m : Mesh) (s t : ℕ) (out : List ℕ) (r : Result ℕ Refusal) (out' : List ℕ) : Type 0 where
  pub none : (n : ℕ) → Way m n s t → ⊥
  pub told : r ≡ Err NoPath
  pub same : out' ≡ out

-- a shortest path stands in the slice from place 0 on, and what was there behind it
pub record Somewhere (m : Mesh) (s t : ℕ) (out : List ℕ) (r : Result ℕ Refusal) (out' : List ℕ) : Type 0 where
  pub hops : ℕ
  pub told : r ≡ Ok hops
  pub least : Shortest m s t hops
  pub written : Traced m s t hops out out'

-- what comes back and what the slices hold afterwards, where o stands against it, in the mesh of relays that run
pub record Rounded (o : Option Refusal) (m : Mesh) (s t : ℕ) (room out : List ℕ) (r : Result ℕ Refusal) (room' out' : List ℕ) : Type 0 where
  pub refused : (why : Refusal) → o ≡ some why → (r ≡ Err why) × (room' ≡ room) × (out' ≡ out)
  pub sought : o ≡ none → Nowhere m s t out r out' ⊎ Somewhere m s t out r out'
  pub as_long : (length room' ≡ length room) × (length out' ≡ length out)
