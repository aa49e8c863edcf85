-- What a planner promises, over any mesh: what stands against the request is told, and then nothing is changed; else what was asked for stands in the lent
-- slices, and what lies beyond it is as it was (`PlannedAs`; of a fan, `Planned`). `refusal` and `granted` are the two ways to keep it. The judge finds nothing in
-- a fan that is planned (`planned_clean`); any two results have the same answer, agree beyond the paths' places, and after a refusal agree everywhere
-- (`planned-one`): only the choice among several fans, or bundles, is open. Assumes nothing.
use Rattle.std.specs.Prelude.{ℕ, ◌+◌, ◌-◌, ◌*◌, ◌≤◌, ◌≡◌, refl, List, Result, Ok, Err, ⊤, length, get_or, drop}
use Rattle.std.proofs.Common.{sym, ap, ◌∙◌, arith, length-drop, get_or-drop, ext_get_or}
use Rattle.std.proofs.Math.Option.{Option, none, some}
use Rattle.answers.specs.Laws.{checked_against, checked_unique}
use Rattle.answers.specs.Told.{checked_told, tell, against}
use Rattle.answers.specs.declared.Refusal.{Refusal}
use Rattle.paths.specs.Mesh.{Mesh, width}
use Rattle.paths.specs.Fan.{Fan}
use Rattle.paths.specs.Finding.{clean, finding}
use Rattle.paths.proofs.Judged.{fan_clean}

-- what comes back and what the slices hold afterwards, where o stands against k paths of w places each, which are to be P
pub record PlannedAs (o : Option Refusal) (k w : ℕ) (P : (places counts : List ℕ) → Type 0) (places counts : List ℕ) (r : Result ⊤ Refusal) (places₁ counts₁ : List ℕ) : Type 0 where
  pub told : checked_told r ≡ tell o 0 0
  pub paths : o ≡ none → P places₁ counts₁
  pub beyond : drop (k * w) places₁ ≡ drop (k * w) places
  pub beyond_counts : drop k counts₁ ≡ drop k counts
  pub as_long : length places₁ ≡ length places
  pub as_long_counts : length counts₁ ≡ length counts
  pub refused : (why : Refusal) → o ≡ some why → (places₁ ≡ places) × (counts₁ ≡ counts)

-- of a fan
abbrev pub Planned : (o : Option Refusal) (mesh : Mesh) (s : ℕ) (targets places counts : List ℕ) (r : Result ⊤ Refusal) (places₁ counts₁ : List ℕ) → Type 0
Planned o mesh s targets = PlannedAs o (length targets) (width mesh) (Fan mesh s targets)

pub not-both : {o : Option Refusal} {why : Refusal} {A : Type 0} → o ≡ some why → o ≡ none → A
not-both p q = let z : ◌≡◌ {A = ℕ} 0 1 = cc in absurd (omega arith)

-- a refusal changes nothing
pub refused_as : {o : Option Refusal} {why : Refusal} (k w : ℕ) (P : (places counts : List ℕ) → Type 0) (places counts : List ℕ) → o ≡ some why
    → PlannedAs o k w P places counts (Err why) places counts
refused_as k w P places counts e = record {
  told = ap (λ (o : Option Refusal). tell o 0 0) (sym e);
  paths = λ z. not-both e z;
  beyond = refl;
  beyond_counts = refl;
  as_long = refl;
  as_long_counts = refl;
  refused = λ r z. (refl, refl);
}

pub refusal : {o : Option Refusal} {why : Refusal} (mesh : Mesh) (s : ℕ) (targets places counts : List ℕ) → o ≡ some why
    → Planned o mesh s targets places counts (Err why) places counts
refusal mesh s targets = refused_as (length targets) (width mesh) (Fan mesh s targets)

-- lists that are the same beyond a place
drop-same : (m : ℕ) (l r : List ℕ) → length l ≡ length r → ((i : ℕ) → m ≤ i → get_or l i 0 ≡ get_or r i 0) → drop m l ≡ drop m r
drop-same m l r e h =
    ext_get_or 0 (drop m l) (drop m r) (length-drop m l ∙ ap (λ (x : ℕ). x - m) e ∙ sym (length-drop m r))
    (λ i g. get_or-drop m l i 0 ∙ h (m + i) (omega arith) ∙ sym (get_or-drop m r i 0))

-- what was asked is given
pub granted_as : {o : Option Refusal} (k w : ℕ) (P : (places counts : List ℕ) → Type 0) (places counts places₁ counts₁ : List ℕ) → o ≡ none → P places₁ counts₁
    → ((i : ℕ) → k * w ≤ i → get_or places₁ i 0 ≡ get_or places i 0) → ((i : ℕ) → k ≤ i → get_or counts₁ i 0 ≡ get_or counts i 0)
    → length places₁ ≡ length places → length counts₁ ≡ length counts → PlannedAs o k w P places counts (Ok tt) places₁ counts₁
granted_as k w P places counts places₁ counts₁ e f rest kept long long_counts = record {
  told = ap (λ (o : Option Refusal). tell o 0 0) (sym e);
  paths = λ z. f;
  beyond = drop-same (k * w) places₁ places long rest;
  beyond_counts = drop-same k counts₁ counts long_counts kept;
  as_long = long;
  as_long_counts = long_counts;
  refused = λ why z. not-both z e;
}

pub granted : {o : Option Refusal} (mesh : Mesh) (s : ℕ) (targets places counts places₁ counts₁ : List ℕ) → o ≡ none → Fan mesh s targets places₁ counts₁
    → ((i : ℕ) → length targets * width mesh ≤ i → get_or places₁ i 0 ≡ get_or places i 0) → ((i : ℕ) → length targets ≤ i → get_or counts₁ i 0 ≡ get_or counts i 0)
    → length places₁ ≡ length places → length counts₁ ≡ length counts → Planned o mesh s targets places counts (Ok tt) places₁ counts₁
granted mesh s targets = granted_as (length targets) (width mesh) (Fan mesh s targets)

-- ---- what is planned

-- what is told says what stood against it
pub planned-against : {o : Option Refusal} {k w : ℕ} {P : (places counts : List ℕ) → Type 0} {places counts places₁ counts₁ : List ℕ} {r : Result ⊤ Refusal}
    → PlannedAs o k w P places counts r places₁ counts₁ → against r ≡ o
planned-against {o} {r = r} a = checked_against r o a.told

pub planned_clean : {o : Option Refusal} {mesh : Mesh} {s : ℕ} {targets places counts places₁ counts₁ : List ℕ} {r : Result ⊤ Refusal}
    → Planned o mesh s targets places counts r places₁ counts₁ → o ≡ none → finding mesh s targets places₁ counts₁ ≡ clean
planned_clean {o} {mesh} {s} {targets} {places} {counts} {places₁} {counts₁} a e = fan_clean mesh s targets places₁ counts₁ (a.paths e)

pub planned-one : {o : Option Refusal} {k w : ℕ} {P : (places counts : List ℕ) → Type 0} {places counts p c p₁ c₁ : List ℕ} {r r₁ : Result ⊤ Refusal}
    → PlannedAs o k w P places counts r p c → PlannedAs o k w P places counts r₁ p₁ c₁
    → (r ≡ r₁) × (drop (k * w) p ≡ drop (k * w) p₁) × (drop k c ≡ drop k c₁) × ((why : Refusal) → o ≡ some why → (p ≡ p₁) × (c ≡ c₁))
planned-one {r = r} {r₁ = r₁} a b = (
  checked_unique r r₁ (planned-against a ∙ sym (planned-against b)),
  a.beyond ∙ sym b.beyond,
  a.beyond_counts ∙ sym b.beyond_counts,
  λ why e. ((a.refused why e).0 ∙ sym (b.refused why e).0, (a.refused why e).1 ∙ sym (b.refused why e).1),
)
