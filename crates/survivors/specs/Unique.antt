-- The promise of survivors leaves one tally and one content for each column (`survived_unique`): tallies that tell the same are the same.
-- Assumes nothing.
use Rattle.std.specs.Prelude.{ℕ, ◌≡◌, refl, Bool, List, Result, Ok, Err, ⊤}
use Rattle.std.proofs.Common.{sym, ap, ap₂, ◌∙◌}
use Rattle.paths.specs.Whole.{Failed}
use Rattle.judge.specs.Says.{Asked}
use Rattle.judge.specs.Unique.{verdict_unique}
use Rattle.judge.specs.declared.Fault.{Fault}
use Rattle.survivors.specs.Tally.{Tally, ruling_of, whole_of, verdict_of, count_of, tally_told}
use Rattle.survivors.specs.Says.{Survived, wanting_of, SurvivedZoned}

tally_of : Result ⊤ Fault → ℕ → Tally
tally_of (Ok x) c = Ok c
tally_of (Err f) c = Err f

tally_back : (t : Tally) → tally_of (verdict_of t) (count_of t) ≡ t
unfolding tally_of
tally_back (Ok c) = refl
tally_back (Err f) = refl

pub tally_unique : (a b : Tally) → tally_told a ≡ tally_told b → a ≡ b
tally_unique a b e =
    sym (tally_back a) ∙ ap₂ tally_of (verdict_unique (verdict_of a) (verdict_of b) (ap ruling_of e)) (ap whole_of e) ∙ tally_back b

pub survived_unique : (wanting : Bool) (q : Asked) (places counts : List ℕ) (fails : Failed) (ends hops wholes : List ℕ) (a b : Tally) (ends₁ hops₁ wholes₁ ends₂ hops₂ wholes₂ : List ℕ)
    → Survived wanting q places counts fails ends hops wholes a ends₁ hops₁ wholes₁ → Survived wanting q places counts fails ends hops wholes b ends₂ hops₂ wholes₂
    → (a ≡ b) × (ends₁ ≡ ends₂) × (hops₁ ≡ hops₂) × (wholes₁ ≡ wholes₂)
survived_unique wanting q places counts fails ends hops wholes a b ends₁ hops₁ wholes₁ ends₂ hops₂ wholes₂ p r = (
  tally_unique a b (p.told ∙ sym r.told),
  p.ended ∙ sym r.ended,
  p.hopped ∙ sym r.hopped,
  p.marked ∙ sym r.marked,
)

pub zoned_unique : (q : Asked) (places counts zones : List ℕ) (fails : Failed) (ends hops wholes sites : List ℕ) (a b : Tally) (ends₁ hops₁ wholes₁ sites₁ ends₂ hops₂ wholes₂ sites₂ : List ℕ)
    → SurvivedZoned q places counts zones fails ends hops wholes sites a ends₁ hops₁ wholes₁ sites₁
    → SurvivedZoned q places counts zones fails ends hops wholes sites b ends₂ hops₂ wholes₂ sites₂
    → (a ≡ b) × (ends₁ ≡ ends₂) × (hops₁ ≡ hops₂) × (wholes₁ ≡ wholes₂) × (sites₁ ≡ sites₂)
zoned_unique q places counts zones fails ends hops wholes sites a b ends₁ hops₁ wholes₁ sites₁ ends₂ hops₂ wholes₂ sites₂ p r =
    let s = survived_unique (wanting_of q places counts zones fails ends hops wholes sites) q places counts fails ends hops wholes a b ends₁ hops₁ wholes₁ ends₂ hops₂ wholes₂ p.survived r.survived in
    (s.0, s.1, s.2, s.3, p.zoned ∙ sym r.zoned)
