-- The promises of the readers leave one result and one content of each lent slice (`read_unique`, `either_unique`). Assumes nothing.
use Rattle.std.specs.Prelude.{ℕ, ◌≡◌, List, Result}
use Rattle.std.proofs.Common.{sym, ◌∙◌}
use Rattle.std.proofs.Math.Option.{Option}
use Rattle.sheet.specs.Format.{version_of}
use Rattle.sheet.specs.declared.Flaw.{Flaw}
use Rattle.sheet.specs.declared.Version.{Version}
use Rattle.sheet.specs.declared.Versioned.{Versioned}
use Rattle.sheet_check.specs.Unique.{reading_unique, told_unique}
use Rattle.sheet.specs.declared.Head.{Head}
use Rattle.sheet_read.specs.Says.{Held, Read, zones_against, ReadEither}

module _ (v : ℕ) (l places counts targets : List ℕ) where
  held_unique : {o : Option Flaw} {places₁ counts₁ targets₁ places₂ counts₂ targets₂ : List ℕ} → Held v l o places counts targets places₁ counts₁ targets₁
      → Held v l o places counts targets places₂ counts₂ targets₂ → (places₁ ≡ places₂) × (counts₁ ≡ counts₂) × (targets₁ ≡ targets₂)
  held_unique p q = (p.placed ∙ sym q.placed, p.counted ∙ sym q.counted, p.aimed ∙ sym q.aimed)

  pub read_unique : (a b : Result Head Flaw) (places₁ counts₁ targets₁ places₂ counts₂ targets₂ : List ℕ)
      → Read v l places counts targets a places₁ counts₁ targets₁ → Read v l places counts targets b places₂ counts₂ targets₂
      → (a ≡ b) × (places₁ ≡ places₂) × (counts₁ ≡ counts₂) × (targets₁ ≡ targets₂)
  read_unique a b places₁ counts₁ targets₁ places₂ counts₂ targets₂ p q =
      let h = held_unique p.held q.held in (reading_unique a b (p.told ∙ sym q.told), h.0, h.1, h.2)

module _ (l places counts targets zones : List ℕ) where
  pub either_unique : (a b : Result (Versioned Version) Flaw) (places₁ counts₁ targets₁ zones₁ places₂ counts₂ targets₂ zones₂ : List ℕ)
      → ReadEither l places counts targets zones a places₁ counts₁ targets₁ zones₁ → ReadEither l places counts targets zones b places₂ counts₂ targets₂ zones₂
      → (a ≡ b) × (places₁ ≡ places₂) × (counts₁ ≡ counts₂) × (targets₁ ≡ targets₂) × (zones₁ ≡ zones₂)
  either_unique a b places₁ counts₁ targets₁ zones₁ places₂ counts₂ targets₂ zones₂ p q =
      let h = held_unique (version_of l) l places counts targets p.read.held q.read.held in
      let o = zones_against (version_of l) l places counts targets zones in (
        told_unique l o a b (record { version_is = p.version_is; told = p.read.told }) (record { version_is = q.version_is; told = q.read.told }),
        h.0,
        h.1,
        h.2,
        p.read.zoned ∙ sym q.read.zoned,
      )
