-- The planner's steps: what was checked, room, the fan (`plan_refused`, `short_ask`, `plan_short`, `layable`, `plan_laid`). Assumes nothing.
use Rattle.std.specs.Prelude.{ℕ, ◌≤◌, ◌≡◌, Bool, true, false, List, length, Result, Ok, Err, ⊤}
use Rattle.std.proofs.Common.{sym, ap, ◌∙◌, subst}
use Rattle.std.proofs.Math.Option.{Option, none}
use Rattle.answers.specs.Order.{Fault}
use Rattle.answers.specs.Pairs.{room_refused, room-short, room_granted}
use Rattle.answers.specs.Told.{against}
use Rattle.answers.specs.declared.Refusal.{Refusal}
use Rattle.answers.specs.declared.Refusal.TheVariants.{NoRoom}
use Rattle.mesh.specs.Kinds.{kind_of, mesh_of, known}
use Rattle.mesh.specs.Says.{planned_against, short}
use Rattle.mesh.specs.Requests.{planned_early, plan_fine}
use Rattle.requests.specs.Planned.{Planned, refusal}
use Rattle.planner.specs.Needs.{Layable}

module _ (k n s : ℕ) (targets places counts : List ℕ) where
  abbrev wanting : Bool
  wanting = short (mesh_of k n) (length targets) (length places) (length counts)

  -- 1, 52, 2 to 7
  abbrev early : List Fault
  early = planned_early (kind_of k) n s targets

  -- the promise
  abbrev Plans : Result ⊤ Refusal → List ℕ → List ℕ → Type 0
  Plans r places₁ counts₁ = Planned (planned_against (kind_of k) n s targets wanting) (mesh_of k n) s targets places counts r places₁ counts₁

  module _ {r : Result ⊤ Refusal} (e : against r ≡ planned_against (kind_of k) n s targets false) where
    pub plan_refused : {why : Refusal} → r ≡ Err why → Plans (Err why) places counts
    plan_refused f = refusal (mesh_of k n) s targets places counts (sym (room_refused early wanting e f))

    -- what asking for room asks
    pub short_ask : r ≡ (Ok tt) → (known k n ≡ true) × (length targets ≤ (mesh_of k n).links)
    short_ask f = let fine = (plan_fine (kind_of k) n s targets (sym e ∙ ap against f)).0 in (fine.known, fine.sound.few)

    module _ {flag : Bool} (f : r ≡ (Ok tt)) (w : flag ≡ wanting) where
      pub plan_short : flag ≡ true → Plans (Err NoRoom) places counts
      plan_short t = refusal (mesh_of k n) s targets places counts (sym (room-short early wanting e f w t))

      pub layable : flag ≡ false → Layable k n s targets (length places) (length counts)
      layable t = record { clear = sym e ∙ ap against f; room = sym w ∙ t }

      pub plan_laid : flag ≡ false → {places₁ counts₁ : List ℕ} → Planned none (mesh_of k n) s targets places counts (Ok tt) places₁ counts₁ → Plans (Ok tt) places₁ counts₁
      plan_laid t {places₁} {counts₁} d = subst (λ (o : Option Refusal). Planned o (mesh_of k n) s targets places counts (Ok tt) places₁ counts₁) (room_granted early wanting e f w t) d
