-- Where no relay has stopped, a way round has as many hops as the distance (`whole-distance`). Assumes nothing.
use Rattle.std.specs.Prelude.{ℕ, zero, suc, ◌<◌, ◌≡◌, refl, false, ◌⊎◌, List, Result, Ok}
use Rattle.std.proofs.Common.{ap, ◌∙◌, inl, inr}
use Rattle.std.proofs.Math.Option.{none}
use Rattle.scan.specs.Scan.{has}
use Rattle.answers.specs.declared.Refusal.{Refusal}
use Rattle.paths.specs.Mesh.{Mesh}
use Rattle.paths.specs.Ways.{Way, Shortest, shortest_one}
use Rattle.mesh.specs.Kinds.{mesh_of}
use Rattle.mesh.specs.Metric.{Far, far_answered, told_shortest}
use Rattle.around_search.specs.Avoid.{avoiding, link-runs, runs-link}
use Rattle.around.specs.Says.{Nowhere, Somewhere, Rounded}

-- every relay of the mesh runs
abbrev pub Running : (m : Mesh) (stopped : List ℕ) → Type 0
Running m stopped = (u : ℕ) → u < m.relays → has stopped u ≡ false

module _ (m : Mesh) (stopped : List ℕ) (run : Running m stopped) where
  way-runs : (n u v : ℕ) → u < m.relays → Way m n u v → Way (avoiding m stopped) n u v
  way-runs zero u v h e = e
  way-runs (suc n) u v h (w, a, l, r) = (w, a, runs-link m stopped u w l (run u h) (run w a), way-runs n w v a r)

  way_back : (n u v : ℕ) → Way (avoiding m stopped) n u v → Way m n u v
  way_back zero u v e = e
  way_back (suc n) u v (w, a, l, r) = (w, a, (link-runs m stopped u w l).0, way_back n w v r)

  shortest_runs : (s t d : ℕ) → s < m.relays → Shortest m s t d → Shortest (avoiding m stopped) s t d
  shortest_runs s t d h S = record { way = way-runs d s t h S.way; least = λ k w. S.least k (way_back k s t w) }

pub whole-distance : (k n s t d : ℕ) (stopped : List ℕ) {room out room' out' : List ℕ} {r : Result ℕ Refusal} → Far k n s t d → Running (mesh_of k n) stopped
    → Rounded none (avoiding (mesh_of k n) stopped) s t room out r room' out' → r ≡ Ok d
whole-distance k n s t d stopped {room} {out} {room'} {out'} {r} f run R = go (R.sought refl)
  where
    S : Shortest (avoiding (mesh_of k n) stopped) s t d
    S = shortest_runs (mesh_of k n) stopped run s t d (far_answered k n s t d f).0.source (told_shortest k n s t d f)

    go : Nowhere (avoiding (mesh_of k n) stopped) s t out r out' ⊎ Somewhere (avoiding (mesh_of k n) stopped) s t out r out' → r ≡ Ok d
    go (inl x) = absurd (x.none d S.way)
    go (inr x) = x.told ∙ ap (λ (x : ℕ). Ok x) (shortest_one (avoiding (mesh_of k n) stopped) s t x.hops d x.least S)
