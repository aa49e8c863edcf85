-- A mesh with some relays stopped (`avoiding`): its links are those between relays that run. Definitions, and what a link of it says. Assumes nothing.
use Rattle.std.specs.Prelude.{ℕ, ◌≡◌, refl, Bool, true, false, not, ◌&&◌, List}
use Rattle.std.proofs.Common.{ap₂}
use Rattle.scan.specs.Scan.{has}
use Rattle.scan.specs.Laws.{true-false, both_true}
use Rattle.paths.specs.Mesh.{Mesh}

-- relay u runs
abbrev pub runs : (stopped : List ℕ) (u : ℕ) → Bool
runs stopped u = not (has stopped u)

-- the mesh without what has stopped
abbrev pub avoiding : Mesh → (stopped : List ℕ) → Mesh
avoiding m stopped = record {
  relays = m.relays;
  links = m.links;
  longest = m.longest;
  linked = λ u v. m.linked u v && (runs stopped u && runs stopped v);
}

not-false : (b : Bool) → not b ≡ true → b ≡ false
not-false false e = refl
not-false true e = absurd (true-false e refl)

-- a link of it is a link of the mesh between relays that run
pub link-runs : (m : Mesh) (stopped : List ℕ) (u v : ℕ) → (avoiding m stopped).linked u v ≡ true
    → (m.linked u v ≡ true) × (has stopped u ≡ false) × (has stopped v ≡ false)
link-runs m stopped u v e =
    let a = both_true (m.linked u v) (runs stopped u && runs stopped v) e in
    let b = both_true (runs stopped u) (runs stopped v) a.1 in
    (a.0, not-false (has stopped u) b.0, not-false (has stopped v) b.1)

pub runs-link : (m : Mesh) (stopped : List ℕ) (u v : ℕ) → m.linked u v ≡ true → has stopped u ≡ false → has stopped v ≡ false → (avoiding m stopped).linked u v ≡ true
runs-link m stopped u v l p q = ap₂ (λ (x y : Bool). x && y) l (ap₂ (λ (x y : Bool). not x && not y) p q)
