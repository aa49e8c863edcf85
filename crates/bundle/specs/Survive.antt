-- What is planned is what the judge passes (`plan_clean`), and what failures leave of it, from the request to the count: with neither end stopped, at least as many
-- whole paths as a relay has links, less the different relays that have stopped and the different links that are cut (`plan_survives`). Assumes nothing.
use Rattle.std.specs.Prelude.{ℕ, ◌+◌, ◌≤◌, ◌≡◌, Bool, false, List, Result, ⊤}
use Rattle.std.proofs.Common.{sym, ◌∙◌}
use Rattle.std.proofs.Math.Option.{Option, none}
use Rattle.answers.specs.Told.{against}
use Rattle.answers.specs.declared.Refusal.{Refusal}
use Rattle.scan.specs.Scan.{count, has}
use Rattle.paths.specs.Mesh.{Mesh, width}
use Rattle.paths.specs.Finding.{clean}
use Rattle.paths.specs.Bundles.{longer, Bundle, bundle_finding}
use Rattle.paths.proofs.Bundles.{bundle_clean}
use Rattle.paths.specs.Whole.{Failed, failures, whole}
use Rattle.paths.proofs.Survive.{bundle_survives}
use Rattle.requests.specs.Planned.{planned-against}
use Rattle.mesh.specs.Kinds.{Kind}
use Rattle.mesh.specs.Says.{bundle_against}
use Rattle.mesh.specs.Requests.{ends_passed}
use Rattle.bundle.specs.Says.{Planned}

module _ {o : Option Refusal} (m : Mesh) (s t : ℕ) (places counts : List ℕ) {r : Result ⊤ Refusal} (places₁ counts₁ : List ℕ) (p : Planned o m s t places counts r places₁ counts₁)
    (e : against r ≡ none) where
  given : Bundle m s t places₁ counts₁
  given = p.paths (sym (planned-against p) ∙ e)

  pub plan_clean : bundle_finding m s t places₁ counts₁ ≡ clean
  plan_clean = bundle_clean m s t places₁ counts₁ given

pub plan_survives : (K : Kind) (n s t : ℕ) (room : Bool) (places counts : List ℕ) {r : Result ⊤ Refusal} (places₁ counts₁ : List ℕ)
    → Planned (bundle_against K n s t room) (K.mesh n) s t places counts r places₁ counts₁ → against r ≡ none
    → (f : Failed) → has f.stopped s ≡ false → has f.stopped t ≡ false
    → (K.mesh n).links ≤ count (whole (width (longer (K.mesh n))) places₁ counts₁ f) (K.mesh n).links + failures (K.mesh n) f
plan_survives K n s t room places counts places₁ counts₁ p e =
    bundle_survives (K.mesh n) s t places₁ counts₁ (given (K.mesh n) s t places counts places₁ counts₁ p e) (ends_passed K n s t room (sym (planned-against p) ∙ e)).0.source
