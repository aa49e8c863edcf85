-- The planner's steps: what was checked, room, the bundle (`plan_refused`, `short_ask`, `plan_short`, `layable`, `plan_laid`). Assumes nothing.
use Rattle.std.specs.Prelude.{ℕ, ◌≡◌, Bool, true, false, List, length, Result, Ok, Err, ⊤}
use Rattle.std.proofs.Common.{sym, ap, ◌∙◌, subst}
use mathlib.Core.Option.{Option, none}
use Rattle.answers.specs.Told.{against}
use Rattle.answers.specs.declared.Refusal.{Refusal}
use Rattle.answers.specs.declared.Refusal.TheVariants.{NoRoom}
use Rattle.paths.specs.Mesh.{width}
use Rattle.paths.specs.Bundles.{longer, Bundle}
use Rattle.requests.specs.Planned.{refused_as}
use Rattle.mesh.specs.Kinds.{kind_of, mesh_of, known}
use Rattle.mesh.specs.Says.{bundle_against, bundle_short}
use Rattle.mesh.specs.Requests.{checked_ends, ends_refused, ends-short, ends_granted}
use Rattle.bundle.specs.Says.{Planned}
use Rattle.bundle.specs.Needs.{Layable}

module _ (k n s t : ℕ) (places counts : List ℕ) where
  abbrev wanting : Bool
  wanting = bundle_short (mesh_of k n) (length places) (length counts)

  -- the promise
  abbrev Plans : Result ⊤ Refusal → List ℕ → List ℕ → Type 0
  Plans r places₁ counts₁ = Planned (bundle_against (kind_of k) n s t wanting) (mesh_of k n) s t places counts r places₁ counts₁

  refusal : {why : Refusal} → bundle_against (kind_of k) n s t wanting ≡ mathlib.Core.Option.some why → Plans (Err why) places counts
  refusal e = refused_as (mesh_of k n).links (width (longer (mesh_of k n))) (Bundle (mesh_of k n) s t) places counts e

  module _ {r : Result ⊤ Refusal} (e : against r ≡ bundle_against (kind_of k) n s t false) where
    pub plan_refused : {why : Refusal} → r ≡ Err why → Plans (Err why) places counts
    plan_refused f = refusal (sym (ends_refused (kind_of k) n s t e wanting f))

    -- what asking for room asks
    pub short_ask : r ≡ (Ok tt) → known k n ≡ true
    short_ask f = (checked_ends (kind_of k) n s t e f).known

    module _ {flag : Bool} (f : r ≡ (Ok tt)) (w : flag ≡ wanting) where
      pub plan_short : flag ≡ true → Plans (Err NoRoom) places counts
      plan_short b = refusal (sym (ends-short (kind_of k) n s t e f w b))

      pub layable : flag ≡ false → Layable k n s t (length places) (length counts)
      layable b = record { clear = sym e ∙ ap against f; room = sym w ∙ b }

      pub plan_laid : flag ≡ false → {places₁ counts₁ : List ℕ} → Planned none (mesh_of k n) s t places counts (Ok tt) places₁ counts₁ → Plans (Ok tt) places₁ counts₁
      plan_laid b {places₁} {counts₁} d = subst (λ (o : Option Refusal). Planned o (mesh_of k n) s t places counts (Ok tt) places₁ counts₁) (ends_granted (kind_of k) n s t e f w b) d
