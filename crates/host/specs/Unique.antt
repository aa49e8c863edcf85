-- Each promise leaves one answer, and one content of each slice; of what is planned, one answer, and one content where it is refused. Assumes nothing.
use Rattle.std.specs.Prelude.{ℕ, ◌≡◌, List}
use Rattle.std.proofs.Common.{sym, ◌∙◌}
use Rattle.std.proofs.Math.Option.{Option, some}
use Rattle.answers.specs.declared.Refusal.{Refusal}
use Rattle.paths.specs.Whole.{Failed}
use Rattle.judge.specs.Says.{Asked}
use Rattle.host.specs.Says.{PlannedIn, SurvivedIn, WroteIn, ReadIn, WroteZonedIn, ReadZonedIn, MovedIn}
use Rattle.shapes.specs.declared.GustAnswer.{GustAnswer}
use Rattle.shapes.specs.declared.GustReading.{GustReading}
use Rattle.shapes.specs.declared.GustZonedReading.{GustZonedReading}

module _ {o : Option Refusal} {k w : ℕ} {P : (places counts : List ℕ) → Type 0} {places counts : List ℕ} {r q : GustAnswer} {places₁ counts₁ places₂ counts₂ : List ℕ}
    (a : PlannedIn o k w P places counts r places₁ counts₁) (b : PlannedIn o k w P places counts q places₂ counts₂) where
  pub planned_in_unique : r ≡ q
  planned_in_unique = a.told ∙ sym b.told

  pub refused_in_unique : (why : Refusal) → o ≡ some why → (places₁ ≡ places₂) × (counts₁ ≡ counts₂)
  refused_in_unique why e =
      let x = a.left.refused why e in
      let y = b.left.refused why e in
      (x.0 ∙ sym y.0, x.1 ∙ sym y.1)

pub survived_in_unique : {q : Asked} {places counts zones : List ℕ} {fails : Failed} {ends hops wholes sites : List ℕ} {r p : GustAnswer}
    {ends₁ hops₁ wholes₁ sites₁ ends₂ hops₂ wholes₂ sites₂ : List ℕ} → SurvivedIn q places counts zones fails ends hops wholes sites r ends₁ hops₁ wholes₁ sites₁
    → SurvivedIn q places counts zones fails ends hops wholes sites p ends₂ hops₂ wholes₂ sites₂
    → (r ≡ p) × (ends₁ ≡ ends₂) × (hops₁ ≡ hops₂) × (wholes₁ ≡ wholes₂) × (sites₁ ≡ sites₂)
survived_in_unique a b = (
  a.told ∙ sym b.told,
  a.left.survived.ended ∙ sym b.left.survived.ended,
  a.left.survived.hopped ∙ sym b.left.survived.hopped,
  a.left.survived.marked ∙ sym b.left.survived.marked,
  a.left.zoned ∙ sym b.left.zoned,
)

pub wrote_in_unique : {kind size s : ℕ} {targets places counts out : List ℕ} {r q : GustAnswer} {out₁ out₂ : List ℕ}
    → WroteIn kind size s targets places counts out r out₁ → WroteIn kind size s targets places counts out q out₂ → (r ≡ q) × (out₁ ≡ out₂)
wrote_in_unique a b = (a.told ∙ sym b.told, a.left.held ∙ sym b.left.held)

pub read_in_unique : {l places counts targets : List ℕ} {r q : GustReading} {places₁ counts₁ targets₁ places₂ counts₂ targets₂ : List ℕ}
    → ReadIn l places counts targets r places₁ counts₁ targets₁ → ReadIn l places counts targets q places₂ counts₂ targets₂
    → (r ≡ q) × (places₁ ≡ places₂) × (counts₁ ≡ counts₂) × (targets₁ ≡ targets₂)
read_in_unique a b = (
  a.told ∙ sym b.told,
  a.left.held.placed ∙ sym b.left.held.placed,
  a.left.held.counted ∙ sym b.left.held.counted,
  a.left.held.aimed ∙ sym b.left.held.aimed,
)

pub wrote_zoned_unique : {v kind size s : ℕ} {targets places counts zones out : List ℕ} {r q : GustAnswer} {out₁ out₂ : List ℕ}
    → WroteZonedIn v kind size s targets places counts zones out r out₁ → WroteZonedIn v kind size s targets places counts zones out q out₂ → (r ≡ q) × (out₁ ≡ out₂)
wrote_zoned_unique a b = (a.told ∙ sym b.told, a.left.held ∙ sym b.left.held)

pub read-zoned_unique : {l places counts targets zones : List ℕ} {r q : GustZonedReading} {places₁ counts₁ targets₁ zones₁ places₂ counts₂ targets₂ zones₂ : List ℕ}
    → ReadZonedIn l places counts targets zones r places₁ counts₁ targets₁ zones₁ → ReadZonedIn l places counts targets zones q places₂ counts₂ targets₂ zones₂
    → (r ≡ q) × (places₁ ≡ places₂) × (counts₁ ≡ counts₂) × (targets₁ ≡ targets₂) × (zones₁ ≡ zones₂)
read-zoned_unique a b = (
  a.told ∙ sym b.told,
  a.left.read.held.placed ∙ sym b.left.read.held.placed,
  a.left.read.held.counted ∙ sym b.left.read.held.counted,
  a.left.read.held.aimed ∙ sym b.left.read.held.aimed,
  a.left.read.zoned ∙ sym b.left.read.zoned,
)

pub moved_in_unique : {v u : ℕ} {l out : List ℕ} {r q : GustAnswer} {out₁ out₂ : List ℕ} → MovedIn v u l out r out₁ → MovedIn v u l out q out₂ → (r ≡ q) × (out₁ ≡ out₂)
moved_in_unique a b = (a.told ∙ sym b.told, a.left.held ∙ sym b.left.held)
