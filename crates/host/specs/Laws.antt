-- Why what the planners tell is what their calls tell: the number of paths that is told is that of the request (`fan_in`), and of a bundle the links of a size
-- that there is (`bundle_in`). Assumes nothing.
use Rattle.std.specs.Prelude.{ℕ, ◌≡◌, refl, Bool, true, false, not, List, ◌++◌, Result, ⊤}
use Rattle.std.proofs.Common.{ap, ◌∙◌}
use Rattle.std.proofs.Math.Option.{Option}
use Rattle.answers.specs.Order.{Fault, first, size_faults, served_faults, end_faults, room_faults}
use Rattle.answers.specs.Told.{Told, tell, value_of, against}
use Rattle.answers.specs.declared.Refusal.{Refusal}
use Rattle.requests.specs.Planned.{PlannedAs, planned-against}
use Rattle.paths.specs.Mesh.{width}
use Rattle.paths.specs.Bundles.{longer, Bundle}
use Rattle.mesh.specs.Kinds.{Kind}
use Rattle.mesh.specs.Says.{fact_told, bundle_against}
use Rattle.shapes.specs.Shapes.{answer_in}
use Rattle.shapes.specs.declared.GustAnswer.{GustAnswer}
use Rattle.host.specs.Says.{PlannedIn}

pub fan_in : {o : Option Refusal} {k w : ℕ} {P : (places counts : List ℕ) → Type 0} {places counts places₁ counts₁ : List ℕ} {c : Result ⊤ Refusal} {r : GustAnswer}
    → PlannedAs o k w P places counts c places₁ counts₁ → r ≡ answer_in (tell (against c) 0 k) → PlannedIn o k w P places counts r places₁ counts₁
fan_in {k = k} {c = c} p e = record { told = e ∙ ap (λ (o : Option Refusal). answer_in (tell o 0 k)) (planned-against p); answer = c; left = p }

module _ (K : Kind) (n s t : ℕ) (room : Bool) where
  -- of a size that there is not, no number of links is told
  links-told : (b : Bool) (l : List Fault) → tell (first (size_faults (not b) ++ l)) 0 (value_of (tell (first (size_faults (not b))) 0 (K.mesh n).links)) ≡ tell (first (size_faults (not b) ++ l)) 0 (K.mesh n).links
  links-told true l = refl
  links-told false l = refl

  pub bundle_in : {places counts places₁ counts₁ : List ℕ} {c : Result ⊤ Refusal} {r : GustAnswer} {v : ℕ}
      → PlannedAs (bundle_against K n s t room) (K.mesh n).links (width (longer (K.mesh n))) (Bundle (K.mesh n) s t) places counts c places₁ counts₁
      → v ≡ value_of (fact_told K n (K.mesh n).links) → r ≡ answer_in (tell (against c) 0 v)
      → PlannedIn (bundle_against K n s t room) (K.mesh n).links (width (longer (K.mesh n))) (Bundle (K.mesh n) s t) places counts r places₁ counts₁
  bundle_in {c = c} {v = v} p z e = record {
    told =
        e ∙ ap (λ (o : Option Refusal). answer_in (tell o 0 v)) (planned-against p) ∙ ap (λ (x : ℕ). answer_in (tell (bundle_against K n s t room) 0 x)) z
        ∙ ap answer_in (links-told (K.known n) (served_faults (not K.planned) ++ end_faults (K.mesh n).relays s t ++ room_faults room));
    answer = c;
    left = p;
  }
