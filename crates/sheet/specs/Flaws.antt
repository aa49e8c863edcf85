-- Laws of flaws: a flaw is known by its number, path and place (`flaw_back`, `flaw_same`), and none has number 0 (`flaw_some`); when nothing stands against a sheet, test by
-- test, there and back (`flawed-none`, `before-none`; `none-flawed`, `none_before`). Assumes nothing.
use Rattle.std.specs.Prelude.{ℕ, ◌≡◌, refl, Bool, true, false, eqb}
use Rattle.std.proofs.Common.{sym, ap, ap₂, ◌∙◌, arith}
use Rattle.std.proofs.Math.Option.{none, some, Option}
use Rattle.scan.specs.Scan.{pick}
use Rattle.sheet.specs.Says.{flaw_number, flaw_path, flaw_place, flawed, before}
use Rattle.sheet.specs.declared.Flaw.{Flaw}
use Rattle.sheet.specs.declared.Flaw.TheVariants as flaw

-- the flaw of a number, a path and a place
pub flaw_at : (n i p : ℕ) → Flaw
flaw_at n i p =
    pick (eqb n 30) flaw.Cut
    (pick (eqb n 31) flaw.Version
    (pick (eqb n 32) flaw.NoMesh
    (pick (eqb n 33) flaw.Paths
    (pick (eqb n 37) flaw.Lone
    (pick (eqb n 8) flaw.NoRoom
    (pick (eqb n 34) (flaw.Hops i)
    (pick (eqb n 35) flaw.NotAFan
    (pick (eqb n 36) flaw.LeftOver
    (pick (eqb n 2) flaw.SourceOut
    (pick (eqb n 5) (flaw.TargetOut p)
    (pick (eqb n 6) (flaw.TargetIsSource p)
    (pick (eqb n 7) (flaw.TargetAgain p)
    (pick (eqb n 22) (flaw.NotLinked i p)
    (pick (eqb n 24) (flaw.SeenAgain i p) (flaw.Zone i)))))))))))))))

pub flaw_back : (f : Flaw) → flaw_at (flaw_number f) (flaw_path f) (flaw_place f) ≡ f
unfolding flaw_at
flaw_back flaw.Cut = refl
flaw_back flaw.Version = refl
flaw_back flaw.NoMesh = refl
flaw_back flaw.Paths = refl
flaw_back flaw.Lone = refl
flaw_back flaw.NoRoom = refl
flaw_back (flaw.Hops i) = refl
flaw_back flaw.NotAFan = refl
flaw_back flaw.LeftOver = refl
flaw_back flaw.SourceOut = refl
flaw_back (flaw.TargetOut p) = refl
flaw_back (flaw.TargetIsSource p) = refl
flaw_back (flaw.TargetAgain p) = refl
flaw_back (flaw.NotLinked i p) = refl
flaw_back (flaw.SeenAgain i p) = refl
flaw_back (flaw.Zone i) = refl

pub flaw_some : (f : Flaw) → eqb (flaw_number f) 0 ≡ false
flaw_some flaw.Cut = refl
flaw_some flaw.Version = refl
flaw_some flaw.NoMesh = refl
flaw_some flaw.Paths = refl
flaw_some flaw.Lone = refl
flaw_some flaw.NoRoom = refl
flaw_some (flaw.Hops i) = refl
flaw_some flaw.NotAFan = refl
flaw_some flaw.LeftOver = refl
flaw_some flaw.SourceOut = refl
flaw_some (flaw.TargetOut p) = refl
flaw_some (flaw.TargetIsSource p) = refl
flaw_some (flaw.TargetAgain p) = refl
flaw_some (flaw.NotLinked i p) = refl
flaw_some (flaw.SeenAgain i p) = refl
flaw_some (flaw.Zone i) = refl

-- flaws that tell the same are the same
pub flaw_same : (f g : Flaw) → flaw_number f ≡ flaw_number g → flaw_path f ≡ flaw_path g → flaw_place f ≡ flaw_place g → f ≡ g
flaw_same f g a b c =
    sym (flaw_back f) ∙ ap₂ (λ (n i : ℕ). flaw_at n i (flaw_place f)) a b ∙ ap (flaw_at (flaw_number g) (flaw_path g)) c ∙ flaw_back g

pub flawed-none : (b : Bool) (f : Flaw) (rest : Option Flaw) → flawed b f rest ≡ none → (b ≡ false) × (rest ≡ none)
flawed-none true f rest e = let z : ◌≡◌ {A = ℕ} 0 1 = cc in absurd (omega arith)
flawed-none false f rest e = (refl, e)

pub before-none : (a b : Option Flaw) → before a b ≡ none → (a ≡ none) × (b ≡ none)
before-none none b e = (refl, e)
before-none (some f) b e = let z : ◌≡◌ {A = ℕ} 0 1 = cc in absurd (omega arith)

pub no_flaw : {f : Flaw} {A : Type 0} → ◌≡◌ {A = Option Flaw} (some f) none → A
no_flaw e = let z : ◌≡◌ {A = ℕ} 0 1 = cc in absurd (omega arith)

pub none-flawed : {b : Bool} (f : Flaw) {rest : Option Flaw} → b ≡ false → rest ≡ none → flawed b f rest ≡ none
none-flawed f {rest} e c = ap (λ (b : Bool). flawed b f rest) e ∙ c

pub none_before : {o rest : Option Flaw} → o ≡ none → rest ≡ none → before o rest ≡ none
none_before {o} {rest} e c = ap (λ (o : Option Flaw). before o rest) e ∙ c
