-- Each promise leaves one answer, and one content of the slice: the planner's call one number, and one content where it refuses. (Which fan's sheet it
-- writes is its choice.) Assumes nothing.
use Rattle.std.specs.Prelude.{ℕ, ◌≡◌, List, ◌≢◌}
use Rattle.std.proofs.Common.{sym, ◌∙◌}
use Rattle.mesh.specs.Kinds.{Kind}
use Rattle.region.specs.Says.{Stepped, Planned}

pub stepped_unique : {K : Kind} {n s t : ℕ} {out : List ℕ} {r q : ℕ} {out₁ out₂ : List ℕ} → Stepped K n s t out r out₁ → Stepped K n s t out q out₂ → (r ≡ q) × (out₁ ≡ out₂)
stepped_unique a b = (a.told ∙ sym b.told, a.held ∙ sym b.held)

module _ {n kind size s : ℕ} {targets out : List ℕ} {r q : ℕ} {out₁ out₂ : List ℕ} (a : Planned n kind size s targets out r out₁) (b : Planned n kind size s targets out q out₂) where
  pub planned_unique : r ≡ q
  planned_unique = a.told ∙ sym b.told

  pub refused_unique : n ≢ 0 → out₁ ≡ out₂
  refused_unique ne = a.refused ne ∙ sym (b.refused ne)
