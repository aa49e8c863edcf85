-- What the exported calls promise: the number of what the planner tells, and what it leaves in the slices.
use Rattle.std.specs.Prelude.{ℕ, ◌≡◌, List, Result, ⊤}
use Rattle.std.proofs.Common.{ap, ◌∙◌}
use Rattle.std.proofs.Math.Option.{Option}
use Rattle.answers.specs.Told.{tell, number_of, checked_told}
use Rattle.answers.specs.declared.Refusal.{Refusal}
use Rattle.paths.specs.Mesh.{Mesh}
use Rattle.requests.specs.Planned.{Planned}
use Rattle.cube_plan.specs.Says.{PlannedThrough}

-- r is the number of o, and the slices are as the planner leaves them with some answer
pub record Called (o : Option Refusal) (mesh : Mesh) (s : ℕ) (targets places counts : List ℕ) (r : ℕ) (places₁ counts₁ : List ℕ) : Type 0 where
  pub told : r ≡ number_of {A = ℕ} (tell o 0 0)
  pub answer : Result ⊤ Refusal
  pub planned : Planned o mesh s targets places counts answer places₁ counts₁

pub record CalledThrough (o : Option Refusal) (n s doors : ℕ) (targets places counts : List ℕ) (r : ℕ) (places₁ counts₁ : List ℕ) : Type 0 where
  pub told : r ≡ number_of {A = ℕ} (tell o 0 0)
  pub answer : Result ⊤ Refusal
  pub planned : PlannedThrough o n s doors targets places counts answer places₁ counts₁

pub called : {o : Option Refusal} {mesh : Mesh} {s : ℕ} {targets places counts places₁ counts₁ : List ℕ} {a : Result ⊤ Refusal} {r : ℕ} → r ≡ number_of (checked_told a)
    → Planned o mesh s targets places counts a places₁ counts₁ → Called o mesh s targets places counts r places₁ counts₁
called {a = a} e p = record { told = e ∙ ap number_of p.told; answer = a; planned = p }

pub called_through : {o : Option Refusal} {n s doors : ℕ} {targets places counts places₁ counts₁ : List ℕ} {a : Result ⊤ Refusal} {r : ℕ} → r ≡ number_of (checked_told a)
    → PlannedThrough o n s doors targets places counts a places₁ counts₁ → CalledThrough o n s doors targets places counts r places₁ counts₁
called_through {a = a} e p = record { told = e ∙ ap number_of p.planned.told; answer = a; planned = p }
