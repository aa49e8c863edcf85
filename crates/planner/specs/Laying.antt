-- What each kind's planner asks and gives is what laying a fan over every kind asks and promises: `cube_sought`, `cube-laid`, `two-asked`, `two-laid`.
-- Assumes nothing.
use Rattle.std.specs.Prelude.{ℕ, ◌≤◌, ◌≡◌, refl, Bool, true, false, ◌≢◌, List, length, Ok}
use Rattle.std.proofs.Common.{sym, ap, ◌∙◌, subst}
use Rattle.std.proofs.Math.Decide.{ℕ_discrete}
use Rattle.std.proofs.Math.Option.{Option, none}
use Rattle.answers.specs.Order.{refuse}
use Rattle.answers.specs.declared.Refusal.{Refusal}
use Rattle.answers.specs.declared.Refusal.TheVariants.{NoRoom}
use Rattle.paths.specs.Mesh.{width}
use Rattle.cube.specs.Cube.{cube}
use Rattle.two_parts.specs.Two.{two}
use Rattle.two_parts.specs.Parts.{known_bounds}
use Rattle.mesh.specs.Kinds.{Kind, kind_of, mesh_of, known, cubes, twos, CUBE, TWO}
use Rattle.mesh.specs.Says.{planned_against, short}
use Rattle.mesh.specs.Laws.{as_cube, as_two, known-planned, no_planned}
use Rattle.mesh.specs.Requests.{Fine, plan_fine}
use Rattle.requests.specs.Planned.{Planned}
use Rattle.cube_split.specs.Fan.{Sought, Given}
use Rattle.cube_plan.specs.Laying.{Asked, sought, laid_out}
use Rattle.cube_plan.specs.Order.{asked}
use Rattle.two_write.specs.Rows.{Drawn}
use Rattle.two_plan.specs.Sound as two-plan
use Rattle.two_plan.specs.Steps.{lay_asked, lay_granted}
use Rattle.planner.specs.Needs.{Layable}

module _ (k n s : ℕ) (targets places counts : List ℕ) (p : Layable k n s targets (length places) (length counts)) where
  -- what is asked, and what is given, over a kind
  abbrev Asks : Kind → Type 0
  Asks K = (planned_against K n s targets false ≡ none) × (short (K.mesh n) (length targets) (length places) (length counts) ≡ false)

  abbrev Gives : (places₁ counts₁ : List ℕ) → Kind → Type 0
  Gives places₁ counts₁ K = Planned none (K.mesh n) s targets places counts (Ok tt) places₁ counts₁

  fine : Fine (kind_of k) n s targets × ((kind_of k).planned ≡ true)
  fine = plan_fine (kind_of k) n s targets p.clear

  pub lay_known : known k n ≡ true
  lay_known = fine.0.known

  module _ (e : k ≡ CUBE) where
    cube_asks : Asks cubes
    cube_asks = subst Asks (sym (as_cube (λ (K : Kind). K) e)) (p.clear, p.room)

    cube-asked : Asked n s 0 targets
    cube-asked = asked n s targets cube_asks.0

    pub cube-few : n ≤ 32
    cube-few = cube-asked.size

    pub cube_sought : Sought n s 0 targets places counts
    cube_sought = sought n s 0 targets places counts cube-asked cube_asks.1

    pub cube-laid : {places₁ counts₁ : List ℕ} → Given n s 0 targets places counts places₁ counts₁ → length places₁ ≡ length places → length counts₁ ≡ length counts
        → Gives places₁ counts₁ (kind_of k)
    cube-laid {places₁} {counts₁} g long long_counts =
        let laid = laid_out n s 0 targets places counts cube-asked cube_asks.1 places₁ counts₁ g long long_counts in
        subst (Gives places₁ counts₁) (as_cube (λ (K : Kind). K) e)
        (subst (λ (o : Option Refusal). Planned o (cube n) s targets places counts (Ok tt) places₁ counts₁) (ap (λ (b : Bool). refuse b NoRoom none) cube_asks.1) laid.planned)

  module _ (ne : k ≢ CUBE) (e : k ≡ TWO) where
    two_asks : Asks twos
    two_asks = subst Asks (sym (as_two (λ (K : Kind). K) ne e)) (p.clear, p.room)

    two-fine : Fine twos n s targets
    two-fine = (plan_fine twos n s targets two_asks.0).0

    pub two-few : n ≤ 5
    two-few = (known_bounds n two-fine.known).1

    -- w is what code has of the places of a path
    pub two-asked : {w : ℕ} → w ≡ width (mesh_of k n) → two-plan.Asked n s w targets places counts
    two-asked {w} z = lay_asked n s targets places counts two-fine two_asks.1 n w refl (z ∙ sym (as_two (λ (K : Kind). width (K.mesh n)) ne e))

    pub two-laid : {places₁ counts₁ : List ℕ} → Drawn (two n) s targets places counts places₁ counts₁ → length places₁ ≡ length places → length counts₁ ≡ length counts
        → Gives places₁ counts₁ (kind_of k)
    two-laid {places₁} {counts₁} d long long_counts = subst (Gives places₁ counts₁) (as_two (λ (K : Kind). K) ne e) (lay_granted n s targets places counts refl n refl d long long_counts)

  -- no other mesh is planned
  pub none_left : k ≢ CUBE → k ≢ TWO → {places₁ counts₁ : List ℕ} → Gives places₁ counts₁ (kind_of k)
  none_left ne nt = absurd (no_planned k n (known-planned k n fine.0.known fine.1) ne nt)

  -- what is no cube is a two-level mesh
  pub two_left : k ≢ CUBE → k ≡ TWO
  two_left ne = go (ℕ_discrete k TWO)
    where
      go : Dec (k ≡ TWO) → k ≡ TWO
      go (yes e) = e
      go (no nt) = absurd (no_planned k n (known-planned k n fine.0.known fine.1) ne nt)
