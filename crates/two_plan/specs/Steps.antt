-- Laying a fan (`lay_asked`, `lay_granted`), and the planner's steps: what was checked, room, the paths (`asked`, `plan_refused`, `plan_short`,
-- `plan_laid`). Assumes nothing.
use Rattle.std.specs.Prelude.{ℕ, ◌*◌, ◌≤◌, ◌≡◌, Bool, true, false, List, Result, Ok, Err, ⊤, length}
use Rattle.std.proofs.Common.{sym, ◌∙◌, subst}
use Rattle.std.proofs.Math.Option.{Option, none}
use Rattle.answers.specs.Told.{against}
use Rattle.answers.specs.declared.Refusal.{Refusal}
use Rattle.answers.specs.declared.Refusal.TheVariants.{NoRoom}
use Rattle.paths.specs.Mesh.{width}
use Rattle.paths.specs.Lists.{laid-fan}
use Rattle.requests.specs.Planned.{Planned, refusal, granted}
use Rattle.two_parts.specs.Two.{two}
use Rattle.two_parts.specs.Parts.{known_bounds}
use Rattle.mesh.specs.Kinds.{kind_of, twos, TWO}
use Rattle.mesh.specs.Says.{request_against, short}
use Rattle.mesh.specs.Requests.{Fine, checked_fine, request_refused, request_short, request_granted, room_enough}
use Rattle.two_write.specs.Rows.{Drawn}
use Rattle.two_plan.specs.Sound.{Asked}

-- ---- laying

module _ (m s : ℕ) (targets places counts : List ℕ) where
  -- what laying asks, of a sound request with room
  pub lay_asked : Fine twos m s targets → short (two m) (length targets) (length places) (length counts) ≡ false → (size wide : ℕ) → size ≡ m → wide ≡ width (two m)
      → Asked size s wide targets places counts
  lay_asked f t size wide es ew =
      let room = room_enough (two m) (length targets) (length places) (length counts) t in
      subst (λ (y : ℕ). Asked y s wide targets places counts) (sym es) (record {
        low = (known_bounds m f.known).0;
        high = (known_bounds m f.known).1;
        wide = ew;
        sound = f.sound;
        room = subst (λ (y : ℕ). length targets * y ≤ length places) (sym ew) room.0;
        room-counts = room.1;
      })

  -- what it gives
  pub lay_granted : {o : Option Refusal} → o ≡ none → (size : ℕ) → size ≡ m → {places₁ counts₁ : List ℕ} → Drawn (two size) s targets places counts places₁ counts₁
      → length places₁ ≡ length places → length counts₁ ≡ length counts → Planned o (two m) s targets places counts (Ok tt) places₁ counts₁
  lay_granted o size es {places₁} {counts₁} d₁ long long_counts =
      let d = subst (λ (y : ℕ). Drawn (two y) s targets places counts places₁ counts₁) es d₁ in
      granted (two m) s targets places counts places₁ counts₁ o (laid-fan (two m) s targets places₁ counts₁ d.paths d.fan d.laid) d.rest d.kept long long_counts

-- ---- checked first

module _ (m s : ℕ) (targets : List ℕ) (r : Result ⊤ Refusal) (e : against r ≡ request_against (kind_of TWO) m s targets false) where
  e₂ : against r ≡ request_against twos m s targets false
  unfolding kind_of
  e₂ = e

  pub fine : r ≡ Ok tt → Fine twos m s targets
  fine f = checked_fine twos m s targets e₂ f

  pub order_in : r ≡ Ok tt → (1 ≤ m) × (m ≤ 5)
  order_in f = known_bounds m (fine f).known

  -- what asking for room asks
  pub short_ask : r ≡ Ok tt → ((kind_of TWO).known m ≡ true) × (length targets ≤ ((kind_of TWO).mesh m).links)
  unfolding kind_of
  short_ask f = ((fine f).known, (fine f).sound.few)

  module _ (places counts : List ℕ) where
    abbrev wanting : Bool
    wanting = short (two m) (length targets) (length places) (length counts)

    pub plan_refused : {why : Refusal} → r ≡ Err why → Planned (request_against twos m s targets wanting) (two m) s targets places counts (Err why) places counts
    plan_refused f = refusal (two m) s targets places counts (sym (request_refused twos m s targets e₂ wanting f))

    module _ {flag : Bool} (f : r ≡ Ok tt) (w : flag ≡ short ((kind_of TWO).mesh m) (length targets) (length places) (length counts)) where
      w₂ : flag ≡ wanting
      unfolding kind_of
      w₂ = w

      pub plan_short : flag ≡ true → Planned (request_against twos m s targets wanting) (two m) s targets places counts (Err NoRoom) places counts
      plan_short t = refusal (two m) s targets places counts (sym (request_short twos m s targets e₂ f w₂ t))

      pub asked : flag ≡ false → (size wide : ℕ) → size ≡ m → wide ≡ width ((kind_of TWO).mesh m) → Asked size s wide targets places counts
      unfolding kind_of
      asked t size wide es ew = lay_asked m s targets places counts (fine f) (sym w₂ ∙ t) size wide es ew

      pub plan_laid : flag ≡ false → (size : ℕ) → size ≡ m → {places₁ counts₁ : List ℕ} → Drawn (two size) s targets places counts places₁ counts₁ → length places₁ ≡ length places
          → length counts₁ ≡ length counts → Planned (request_against twos m s targets wanting) (two m) s targets places counts (Ok tt) places₁ counts₁
      plan_laid t size es d long long_counts = lay_granted m s targets places counts (sym (request_granted twos m s targets e₂ f w₂ t)) size es d long long_counts
