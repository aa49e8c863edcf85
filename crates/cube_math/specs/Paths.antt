-- Laws of walks (`walk_side`: a walk along dimensions other than b stays on its side of b) and of lists. Assumes nothing.
use Rattle.std.specs.Prelude.{ℕ, ◌≡◌, refl, ◌⊎◌, ◌≢◌, List, [], ◌∷◌}
use Rattle.std.proofs.Common.{sym, ap, ◌∙◌, subst, inl, inr, ⊎_elim}
use Rattle.bits.specs.Bit.{bit}
use Rattle.bits.specs.Laws.{bit-cases, clash, flip-other}
use Rattle.cube_math.specs.Doors.{In, Walk}

-- ---- bits

pub bit-not-one : (i x : ℕ) → bit i x ≢ 1 → bit i x ≡ 0
bit-not-one i x ne = ⊎_elim (λ z. z) (λ o. absurd (ne o)) (bit-cases i x)

pub off_on : (i j x : ℕ) → bit i x ≡ 0 → bit j x ≡ 1 → i ≢ j
off_on i j x p q e = clash p (ap (λ (k : ℕ). bit k x) e ∙ q)

-- ---- walks

pub walk_wider : (less free u t : ℕ) (l : List ℕ) → ((i : ℕ) → bit i less ≡ 1 → bit i free ≡ 1) → Walk less u t l → Walk free u t l
walk_wider less free u t [] h w = w
walk_wider less free u t (v ∷ l) h w = (w.0, h w.0 w.1, w.2, walk_wider less free v t l h w.3)

-- a walk along dimensions other than b stays on its side of b
pub walk_side : (b free u t : ℕ) (l : List ℕ) → bit b free ≡ 0 → Walk free u t l → (x : ℕ) → In x l → bit b x ≡ bit b u
walk_side b free u t [] z w x h = absurd h
walk_side b free u t (v ∷ l) z w x (inl e) = ap (bit b) (e ∙ w.2) ∙ flip-other u w.0 b (off_on b w.0 free z w.1)
walk_side b free u t (v ∷ l) z w x (inr h) = walk_side b free v t l z w.3 x h ∙ ap (bit b) w.2 ∙ flip-other u w.0 b (off_on b w.0 free z w.1)

-- ---- lists

pub not-cons : {A B : Type 0} → (A → ⊥) → (B → ⊥) → A ⊎ B → ⊥
not-cons p q (inl e) = p e
not-cons p q (inr h) = q h

pub in_cast : {x y : ℕ} (l : List ℕ) → x ≡ y → In x l → In y l
in_cast l e h = subst (λ (z : ℕ). In z l) e h

pub in_list : {l r : List ℕ} (x : ℕ) → l ≡ r → In x l → In x r
in_list x e h = subst (λ (z : List ℕ). In x z) e h

-- the first relay stands in the list
pub in_first : {x : ℕ} {l r : List ℕ} → l ≡ x ∷ r → In x l
in_first {x} e = in_list x (sym e) (inl refl)
