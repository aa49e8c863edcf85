-- The promise of the check leaves one result (`check_unique`), of either version too (`told_unique`): results that tell the same are the same (`reading_unique`).
-- Assumes nothing.
use Rattle.std.specs.Prelude.{ℕ, ◌≡◌, refl, Bool, List, eqb, Result, Ok, Err}
use Rattle.std.proofs.Common.{sym, ap, ap₂, ◌∙◌, arith}
use Rattle.std.proofs.Math.Option.{Option}
use Rattle.scan.specs.Scan.{pick}
use Rattle.sheet.specs.Flaws.{flaw_at, flaw_back, flaw_some}
use Rattle.sheet.specs.Says.{flaw_number, flaw_path, flaw_place, ReadTold, reads, reading_told, version_number, version_told, head_told, with_version}
use Rattle.sheet_check.specs.Says.{check_against, sheet_told, Told}
use Rattle.sheet.specs.declared.Flaw.{Flaw}
use Rattle.sheet.specs.declared.Head.{Head}
use Rattle.sheet.specs.declared.Version.{Version}
use Rattle.sheet.specs.declared.Version.TheVariants.{One, Two}
use Rattle.sheet.specs.declared.Versioned.{Versioned}

reading_of : ReadTold → Result Head Flaw
reading_of (reads n i p kind size s k) = pick (eqb n 0) (Ok (record { mesh = record { kind = kind; size = size }; source = s; paths = k })) (Err (flaw_at n i p))

reading_back : (r : Result Head Flaw) → reading_of (reading_told r) ≡ r
unfolding reading_of
reading_back (Ok h) = refl
reading_back (Err f) =
    ap (λ (b : Bool). pick b (Ok (record { mesh = record { kind = 0; size = 0 }; source = 0; paths = 0 })) (Err (flaw_at (flaw_number f) (flaw_path f) (flaw_place f)))) (flaw_some f)
    ∙ ap Err (flaw_back f)

pub reading_unique : (a b : Result Head Flaw) → reading_told a ≡ reading_told b → a ≡ b
reading_unique a b e = sym (reading_back a) ∙ ap reading_of e ∙ reading_back b

pub check_unique : (v : ℕ) (l : List ℕ) (a b : Result Head Flaw) → reading_told a ≡ sheet_told l (check_against v l) → reading_told b ≡ sheet_told l (check_against v l) → a ≡ b
check_unique v l a b p q = reading_unique a b (p ∙ sym q)

-- what is read with its version, by the two
version_at : ℕ → Version
version_at n = pick (eqb n 1) One Two

version_back : (v : Version) → version_at (version_number v) ≡ v
unfolding version_at
version_back One = refl
version_back Two = refl

versioned_unique : (a b : Result (Versioned Version) Flaw) → version_told a ≡ version_told b → head_told a ≡ head_told b → a ≡ b
versioned_unique (Ok x) (Ok y) p q = ap₂ (λ (v : Version) (r : Result Head Flaw). with_version v r) (sym (version_back x.version) ∙ ap version_at p ∙ version_back y.version) q
versioned_unique (Ok x) (Err g) p q = absurd (let z : ◌≡◌ {A = ℕ} 0 1 = cc in omega arith)
versioned_unique (Err f) (Ok y) p q = absurd (let z : ◌≡◌ {A = ℕ} 0 1 = cc in omega arith)
versioned_unique (Err f) (Err g) p q = cc

pub told_unique : (l : List ℕ) (against : Option Flaw) (a b : Result (Versioned Version) Flaw) → Told l against a → Told l against b → a ≡ b
told_unique l against a b p q = versioned_unique a b (p.version_is ∙ sym q.version_is) (reading_unique (head_told a) (head_told b) (p.told ∙ sym q.told))
