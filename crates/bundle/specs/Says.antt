-- What the planner over bundles promises: what stands against the two ends is told, and then nothing is changed; else a bundle stands in the lent slices, and what
-- lies beyond it is as it was.
use Rattle.std.specs.Prelude.{ℕ, List, Result, ⊤}
use Rattle.std.proofs.Math.Option.{Option}
use Rattle.answers.specs.declared.Refusal.{Refusal}
use Rattle.paths.specs.Mesh.{Mesh, width}
use Rattle.paths.specs.Bundles.{longer, Bundle}
use Rattle.requests.specs.Planned.{PlannedAs}

abbrev pub Planned : (o : Option Refusal) (m : Mesh) (s t : ℕ) (places counts : List ℕ) (r : Result ⊤ Refusal) (places₁ counts₁ : List ℕ) → Type 0
Planned o m s t = PlannedAs o m.links (width (longer m)) (Bundle m s t)
