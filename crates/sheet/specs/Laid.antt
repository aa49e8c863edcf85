-- Paths that are laid out, place by place: what stands at a place of path i (`laid-at`), its hops (`laid-hops`) and its last relay (`laid_end`). Assumes
-- nothing.
use Rattle.std.specs.Prelude.{ℕ, zero, suc, ◌+◌, ◌*◌, ◌≤◌, ◌<◌, ◌≡◌, refl, List, [], ◌∷◌, length, get_or}
use Rattle.std.proofs.Common.{ap, ◌∙◌, suc-mul, arith, get_or-append-add}
use Rattle.std.proofs.Math.ListN.{get_or-append}
use Rattle.paths.specs.Fan.{filler}
use Rattle.sheet.specs.Format.{row, places_of, counts_of, last_of, targets_of}
use Rattle.sheet.specs.Lengths.{row-length}
use Rattle.sheet.specs.Lent.{Within, row_at}

-- path i, and no relay where there is none
abbrev pub path_at : List (List ℕ) → ℕ → List ℕ
path_at ps i = get_or ps i []

pub within_at : (longest : ℕ) (ps : List (List ℕ)) → Within longest ps → (i : ℕ) → i < length ps → length (path_at ps i) ≤ longest
within_at longest [] h i l = absurd (omega arith)
within_at longest (p ∷ ps) h zero l = h.0
within_at longest (p ∷ ps) h (suc i) l = within_at longest ps h.1 i (omega arith)

pub laid-hops : (ps : List (List ℕ)) (i : ℕ) → i < length ps → get_or (counts_of ps) i 0 ≡ length (path_at ps i)
unfolding counts_of
laid-hops [] i l = absurd (omega arith)
laid-hops (p ∷ ps) zero l = refl
laid-hops (p ∷ ps) (suc i) l = laid-hops ps i (omega arith)

pub laid_end : (s : ℕ) (ps : List (List ℕ)) (i : ℕ) → i < length ps → get_or (targets_of s ps) i 0 ≡ last_of s (path_at ps i)
unfolding targets_of
laid_end s [] i l = absurd (omega arith)
laid_end s (p ∷ ps) zero l = refl
laid_end s (p ∷ ps) (suc i) l = laid_end s ps i (omega arith)

-- the source first, and filler after the end
pub laid-at : (s longest : ℕ) (ps : List (List ℕ)) → Within longest ps → (i j : ℕ) → i < length ps → j ≤ longest
    → get_or (places_of s longest ps) (i * (longest + 1) + j) 0 ≡ get_or (s ∷ path_at ps i) j filler
unfolding places_of
laid-at s longest [] h i j l g = absurd (omega arith)
laid-at s longest (p ∷ ps) h zero j l g =
    let place : 0 * (longest + 1) + j ≡ j = omega arith in
    ap (λ (x : ℕ). get_or (places_of s longest (p ∷ ps)) x 0) place
    ∙ get_or-append (row s longest p) (places_of s longest ps) 0 j (omega (arith, row-length s longest p h.0)) ∙ row_at s longest p j h.0 g
laid-at s longest (p ∷ ps) h (suc i) j l g =
    let place : suc i * (longest + 1) + j ≡ length (row s longest p) + (i * (longest + 1) + j) = omega (arith, row-length s longest p h.0, suc-mul i (longest + 1)) in
    ap (λ (x : ℕ). get_or (places_of s longest (p ∷ ps)) x 0) place
    ∙ get_or-append-add (row s longest p) (places_of s longest ps) (i * (longest + 1) + j) 0 ∙ laid-at s longest ps h.1 i j (omega arith) g
