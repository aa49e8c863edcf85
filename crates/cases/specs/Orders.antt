-- The refusals of every routine stand in the order of the specification's table, as one theorem: `orders`. It is computed from the numbers of each
-- routine's list of faults, whatever is asked. Assumes nothing.
use Rattle.std.specs.Prelude.{ℕ, ◌≡◌, refl, Bool, true, List, ◌++◌}
use Rattle.answers.specs.Order.{Fault, in_order, room_faults}
use Rattle.cube.specs.Says as cube
use Rattle.two.specs.Says as two
use Rattle.meta.specs.Says as meta
use Rattle.two_distance.specs.Says as far
use Rattle.mesh.specs.Kinds.{Kind}
use Rattle.mesh.specs.Says as mesh
use Rattle.cube_plan.specs.Says as doors
use Rattle.line.specs.Says.{line_faults}
use Rattle.region.specs.Says.{plan_faults}
use Rattle.around.specs.Says.{round_faults_in}
use Rattle.dimacs.specs.Says.{export_faults_in}

abbrev Ordered : List Fault → Type 0
Ordered l = in_order l ≡ true

-- a field for each list
pub record Orders : Type 0 where
  -- facts of a size; links, next hop and route; distance
  pub facts : (K : Kind) (n : ℕ) → Ordered (mesh.size_faults_in K n)
  pub pairs : (K : Kind) (n s t : ℕ) (room : Bool) → Ordered (mesh.pair_faults_in K n s t room)
  pub distance : (K : Kind) (n s t : ℕ) → Ordered (mesh.distance_faults_in K n s t)
  -- the same of the cube, of the two-level mesh and of metacubes alone
  pub cube_pairs : (n s t : ℕ) (room : Bool) → Ordered (cube.pair_faults_in n s t room)
  pub two_pairs : (m s t : ℕ) (room : Bool) → Ordered (two.pair_faults_in m s t room)
  pub meta_pairs : (n s t : ℕ) (room : Bool) → Ordered (meta.pair_faults_in n s t room)
  pub two-distance : (m s t : ℕ) → Ordered (far.distance_faults_in m s t)
  -- judge and survivors of fans; the planner; bundles; the cube's planner, and through doors
  pub requests : (K : Kind) (n s : ℕ) (targets : List ℕ) (room : Bool) → Ordered (mesh.request_faults_in K n s targets room)
  pub plans : (K : Kind) (n s : ℕ) (targets : List ℕ) (room : Bool) → Ordered (mesh.planned_faults_in K n s targets room)
  pub bundles : (K : Kind) (n s t : ℕ) (room : Bool) → Ordered (mesh.bundle_faults_in K n s t room)
  pub cube_plan : (n s : ℕ) (targets places counts : List ℕ) → Ordered (doors.plan_faults n s targets places counts)
  pub through : (n s d : ℕ) (targets places counts : List ℕ) → Ordered (doors.through_faults n s d targets places counts)
  -- a way round
  pub rounds : (K : Kind) (n s t : ℕ) (stopped : List ℕ) (room : Bool) → Ordered (round_faults_in K n s t stopped room)
  -- a graph file, read and written
  pub graph : (K : Kind) (n : ℕ) → Ordered (export_faults_in K n)
  pub graph_written : (K : Kind) (n : ℕ) (room : Bool) → Ordered (export_faults_in K n ++ room_faults room)
  -- a line of text; the host's plan, before 37 and 8
  pub line : (unreadable room : Bool) → Ordered (line_faults unreadable room)
  pub plan : (kind size s : ℕ) (bytes : List ℕ) → Ordered (plan_faults kind size s bytes)

pub orders : Orders
orders = record {
  facts = λ K n. refl;
  pairs = λ K n s t room. refl;
  distance = λ K n s t. refl;
  cube_pairs = λ n s t room. refl;
  two_pairs = λ m s t room. refl;
  meta_pairs = λ n s t room. refl;
  two-distance = λ m s t. refl;
  requests = λ K n s targets room. refl;
  plans = λ K n s targets room. refl;
  bundles = λ K n s t room. refl;
  cube_plan = λ n s targets places counts. refl;
  through = λ n s d targets places counts. refl;
  rounds = λ K n s t stopped room. refl;
  graph = λ K n. refl;
  graph_written = λ K n room. refl;
  line = λ unreadable room. refl;
  plan = λ kind size s bytes. refl;
}
