-- The promise of the writer leaves one result and one content of the lent slice (`wrote_unique`, over the version `wrote_in_unique`): results that tell the same are the same.
-- Assumes nothing.
use Rattle.std.specs.Prelude.{ℕ, ◌≡◌, refl, Bool, List, eqb, Result, Ok, Err}
use Rattle.std.proofs.Common.{sym, ap, ◌∙◌}
use Rattle.scan.specs.Scan.{pick}
use Rattle.sheet.specs.Flaws.{flaw_at, flaw_back, flaw_some}
use Rattle.sheet.specs.Says.{flaw_number, flaw_path, flaw_place, WriteTold, wrote, written_told}
use Rattle.sheet_write.specs.Says.{Wrote, WroteIn}
use Rattle.sheet.specs.declared.Flaw.{Flaw}

written_of : WriteTold → Result ℕ Flaw
written_of (wrote n i p b) = pick (eqb n 0) (Ok b) (Err (flaw_at n i p))

written_back : (r : Result ℕ Flaw) → written_of (written_told r) ≡ r
unfolding written_of
written_back (Ok n) = refl
written_back (Err f) =
    ap (λ (b : Bool). pick b (Ok 0) (Err (flaw_at (flaw_number f) (flaw_path f) (flaw_place f)))) (flaw_some f)
    ∙ ap Err (flaw_back f)

pub written_unique : (a b : Result ℕ Flaw) → written_told a ≡ written_told b → a ≡ b
written_unique a b e = sym (written_back a) ∙ ap written_of e ∙ written_back b

module _ (kind size s : ℕ) (targets places counts out : List ℕ) where
  pub wrote_unique : (a b : Result ℕ Flaw) (out₁ out₂ : List ℕ) → Wrote kind size s targets places counts out a out₁
      → Wrote kind size s targets places counts out b out₂ → (a ≡ b) × (out₁ ≡ out₂)
  wrote_unique a b out₁ out₂ p q = (written_unique a b (p.told ∙ sym q.told), p.held ∙ sym q.held)

module _ (v : ℕ) (lacking : Bool) (zones : List ℕ) (kind size s : ℕ) (targets places counts out : List ℕ) where
  pub wrote_in_unique : (a b : Result ℕ Flaw) (out₁ out₂ : List ℕ) → WroteIn v lacking zones kind size s targets places counts out a out₁
      → WroteIn v lacking zones kind size s targets places counts out b out₂ → (a ≡ b) × (out₁ ≡ out₂)
  wrote_in_unique a b out₁ out₂ p q = (written_unique a b (p.told ∙ sym q.told), p.held ∙ sym q.held)
