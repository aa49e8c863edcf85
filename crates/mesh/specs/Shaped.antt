-- What a kind and a size are by their shape: of the kind, and of that size (`in_kind`). Assumes nothing.
use Rattle.std.specs.Prelude.{ℕ, ◌≡◌, Option, Some, None}
use Rattle.std.proofs.Common.{ap₂}
use Rattle.mesh.specs.Kinds.{Kind, cubes, twos, metas, others, kind_of}
use Rattle.mesh.specs.declared.Shape.{Shape}
use Rattle.mesh.specs.declared.Shape.TheVariants.{Cube, Two, Meta}

abbrev pub Shaped : Option Shape → (kind size : ℕ) → Type 0
Shaped (Some (Cube n)) kind size = (cubes ≡ kind_of kind) × (n.0 ≡ size)
Shaped (Some (Two n)) kind size = (twos ≡ kind_of kind) × (n.0 ≡ size)
Shaped (Some (Meta n)) kind size = (metas ≡ kind_of kind) × (n.0 ≡ size)
Shaped None kind size = others ≡ kind_of kind

-- what is said of the shape is said of the kind and the size
pub in_kind : {A : Type 0} (f : Kind → ℕ → A) {K L : Kind} {n m : ℕ} → (K ≡ L) × (n ≡ m) → f K n ≡ f L m
in_kind f e = ap₂ f e.0 e.1
