-- What may be asked after the faults 1 to 7 (`asked`, `asked_through`); and so the planners keep their promise (`plan_laid`, `through_laid`).
-- Assumes nothing.
use Rattle.std.specs.Prelude.{ℕ, ◌-◌, ◌^◌, ◌≤◌, ◌<◌, ◌≡◌, refl, Bool, true, false, not, List, Result, Err, ⊤, ◌++◌, leb, ltb, length}
use Rattle.std.proofs.Common.{sym, ap, ◌∙◌, subst, ⊎_elim, arith, ltb-false, leb-false}
use Rattle.std.proofs.Math.Option.{Option, none, some}
use Rattle.std.specs.Int.Count.{ones, ones-ones}
use Rattle.std.proofs.lemmas.Bool.{not-false}
use Rattle.bits.specs.Bit.{bit}
use Rattle.bits.specs.Laws.{bit-none, clash, lt-or-le, ones-zero}
use Rattle.scan.specs.Scan.{pick}
use Rattle.scan.specs.Laws.{true-false}
use Rattle.answers.specs.Order.{Fault, first, refuse, refuse-none, append-none, append_refused, append-fine, size_faults, request_faults, door_faults, room_faults}
use Rattle.answers.specs.declared.Refusal.{Refusal}
use Rattle.answers.specs.declared.Refusal.TheVariants.{UnknownSize, BadDoors}
use Rattle.requests.specs.Sound.{Sound, sound}
use Rattle.requests.specs.Planned.{Planned, not-both, refusal}
use Rattle.cube.specs.Cube.{known, cube}
use Rattle.cube.specs.Sizes.{known-most}
use Rattle.cube_math.specs.Masks.{less}
use Rattle.cube_math.specs.Choose.{ones-less, less-on}
use Rattle.cube_math.specs.Plain.{bit-full, full-below, bit_high}
use Rattle.cube_plan.specs.Says.{short, bad_doors, early_faults, plan_against, through_against, PlannedThrough}
use Rattle.cube_plan.specs.Laying.{Asked, Laid}

-- ---- what may be asked after 1 to 7

sized : (n s : ℕ) (targets : List ℕ) → first (early_faults n s targets) ≡ none → (n ≤ 32) × Sound (2 ^ n) n s targets
sized n s targets e =
    let r = append-none (size_faults (not (known n))) (request_faults (2 ^ n) n s targets) e in
    (known-most n refl (not-false (known n) (refuse-none (not (known n)) UnknownSize none r.0).0), sound (2 ^ n) n s targets r.1)

pub asked : (n s : ℕ) (targets : List ℕ) → first (early_faults n s targets) ≡ none → Asked n s 0 targets
asked n s targets e =
    let q = sized n s targets e in
    record { size = q.0; sound = q.1; few = omega (arith, q.1.few, ones-zero); held = λ i o. absurd (clash (bit-none i) o) }

-- the doors are the cube's, and enough
doored : (n doors : ℕ) (targets : List ℕ) → bad_doors n doors targets ≡ false → (doors < 2 ^ n) × (length targets ≤ ones doors)
doored n doors targets e = go (leb (2 ^ n) doors) refl e
  where
    go : (b : Bool) → leb (2 ^ n) doors ≡ b → pick b true (ltb (ones doors) (length targets)) ≡ false → (doors < 2 ^ n) × (length targets ≤ ones doors)
    go true p z = absurd (true-false refl z)
    go false p z = (leb-false (2 ^ n) doors p, ltb-false (ones doors) (length targets) z)

pub asked_through : {shut : ℕ} (n s doors : ℕ) (targets : List ℕ) → first (early_faults n s targets) ≡ none → bad_doors n doors targets ≡ false → shut ≡ less (2 ^ n - 1) doors
    → Asked n s shut targets
asked_through n s doors targets e z is =
    let q = sized n s targets e in
    let d = doored n doors targets z in
    let inside : (j : ℕ) → bit j doors ≡ 1 → bit j (2 ^ n - 1) ≡ 1 = λ j o.
    ⊎_elim (bit-full n j) (λ h. absurd (clash (bit_high n j doors d.0 h) o)) (lt-or-le j n) in
    subst (λ (x : ℕ). Asked n s x targets) (sym is) (record {
      size = q.0;
      sound = q.1;
      few = omega (arith, d.1, ones-less (2 ^ n - 1) doors inside, ones-ones n);
      held = λ i o. full-below n i (less-on i (2 ^ n - 1) doors o).0;
    })

-- ---- the planners

module _ (n s : ℕ) (targets places counts : List ℕ) where
  abbrev early : List Fault
  early = early_faults n s targets

  abbrev room : List Fault
  room = room_faults (short n targets places counts)

  -- refused by 1 to 7
  pub plan_refused : {why : Refusal} → first early ≡ some why → Planned (plan_against n s targets places counts) (cube n) s targets places counts (Err why) places counts
  plan_refused e = refusal (cube n) s targets places counts (append_refused early room e)

  pub plan_laid : first early ≡ none → {r : Result ⊤ Refusal} {places₁ counts₁ : List ℕ} → Laid n s 0 targets places counts r places₁ counts₁
      → Planned (plan_against n s targets places counts) (cube n) s targets places counts r places₁ counts₁
  plan_laid e {r} {places₁} {counts₁} a =
      subst (λ (o : Option Refusal). Planned o (cube n) s targets places counts r places₁ counts₁) (sym (append-fine early room e)) a.planned

  module _ (doors : ℕ) where
    abbrev bad : List Fault
    bad = door_faults (bad_doors n doors targets)

    pub through_refused : {why : Refusal} → first early ≡ some why
        → PlannedThrough (through_against n s doors targets places counts) n s doors targets places counts (Err why) places counts
    through_refused e =
        let o = append_refused early (bad ++ room) e in
        record { planned = refusal (cube n) s targets places counts o; through = λ y. not-both o y }

    module _ (e : first early ≡ none) where
      -- 11, or what comes after it
      pub through_bad : bad_doors n doors targets ≡ true
          → PlannedThrough (through_against n s doors targets places counts) n s doors targets places counts (Err BadDoors) places counts
      through_bad z =
          let o : through_against n s doors targets places counts ≡ some BadDoors =
          append-fine early (bad ++ room) e ∙ ap (λ (b : Bool). refuse b BadDoors (first room)) z in
          record { planned = refusal (cube n) s targets places counts o; through = λ y. not-both o y }

      pub through_laid : {r : Result ⊤ Refusal} {places₁ counts₁ : List ℕ} {shut : ℕ} → bad_doors n doors targets ≡ false → shut ≡ less (2 ^ n - 1) doors
          → Laid n s shut targets places counts r places₁ counts₁
          → PlannedThrough (through_against n s doors targets places counts) n s doors targets places counts r places₁ counts₁
      through_laid {r} {places₁} {counts₁} z is a =
          let o : through_against n s doors targets places counts ≡ first room =
          append-fine early (bad ++ room) e ∙ ap (λ (b : Bool). refuse b BadDoors (first room)) z in
          record {
            planned = subst (λ (x : Option Refusal). Planned x (cube n) s targets places counts r places₁ counts₁) (sym o) a.planned;
            through = λ y. a.through (sym o ∙ y) doors is;
          }
