-- The promise of a move leaves one result and one content of the lent slice (`moved_unique`). Assumes nothing.
use Rattle.std.specs.Prelude.{ℕ, ◌≡◌, List, Result}
use Rattle.std.proofs.Common.{sym, ◌∙◌}
use Rattle.sheet.specs.declared.Flaw.{Flaw}
use Rattle.sheet_write.specs.Unique.{written_unique}
use Rattle.sheet_move.specs.Says.{Moved}

pub moved_unique : (v u : ℕ) (l out : List ℕ) (a b : Result ℕ Flaw) (out₁ out₂ : List ℕ) → Moved v u l out a out₁ → Moved v u l out b out₂ → (a ≡ b) × (out₁ ≡ out₂)
moved_unique v u l out a b out₁ out₂ p q = (written_unique a b (p.told ∙ sym q.told), p.held ∙ sym q.held)
