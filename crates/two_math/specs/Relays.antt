-- Relays of the two-level mesh as pairs (block, slot); paths as lists of relays after the source. Assumes nothing.
use Rattle.std.specs.Prelude.{ℕ, suc, ◌-◌, ◌^◌, ◌<◌, ◌≡◌, refl, ◌⊎◌, List, [], ◌∷◌, ◌++◌, length}
use Rattle.std.proofs.Common.{sym, ap, ◌∙◌, subst, inl, inr, ⊎_elim}
use Rattle.bits.specs.Bit.{bit, flip}
use Rattle.bits.specs.Laws.{flip-lt}
use Rattle.cube_math.specs.Doors.{In, Fresh, Walk}
use Rattle.cube_math.specs.Paths.{not-cons}
use Rattle.cube_math.specs.Plain.{full-below}

abbrev pub Relay : Type 0
Relay = ℕ × ℕ

-- the relay (b, p) stands on the path
abbrev pub On : ℕ → ℕ → List Relay → Type 0
On b p [] = ⊥
On b p (r ∷ l) = ((b ≡ r.0) × (p ≡ r.1)) ⊎ On b p l

-- no relay stands twice on it
abbrev pub Once : List Relay → Type 0
Once [] = Unit
Once (r ∷ l) = (On r.0 r.1 l → ⊥) × Once l

-- a link: within a block along a dimension of its cube, or through the door of the slot
abbrev pub Link : ℕ → ℕ → ℕ → ℕ → ℕ → Type 0
Link m b p c q = ((b ≡ c) × ((h : ℕ) × (h < m) × (q ≡ flip p h))) ⊎ ((p ≡ q) × (c ≡ flip b p))

-- from (b, p) over the relays of the path to (c, q), link by link
abbrev pub Chain : ℕ → ℕ → ℕ → ℕ → ℕ → List Relay → Type 0
Chain m b p c q [] = (b ≡ c) × (p ≡ q)
Chain m b p c q (r ∷ l) = Link m b p r.0 r.1 × Chain m r.0 r.1 c q l

-- slots of one block
abbrev pub inside : ℕ → List ℕ → List Relay
inside b [] = []
inside b (p ∷ l) = (b, p) ∷ inside b l

-- ---- joined paths

pub on-append : (b p : ℕ) (l r : List Relay) → On b p (l ++ r) → On b p l ⊎ On b p r
on-append b p [] r h = inr h
on-append b p (x ∷ l) r (inl e) = inl (inl e)
on-append b p (x ∷ l) r (inr h) = ⊎_elim (λ z. inl (inr z)) inr (on-append b p l r h)

pub once_append : (l r : List Relay) → Once l → Once r → ((b p : ℕ) → On b p l → On b p r → ⊥) → Once (l ++ r)
once_append [] r o q h = q
once_append (x ∷ l) r o q h =
    (λ z. ⊎_elim o.0 (h x.0 x.1 (inl (refl, refl))) (on-append x.0 x.1 l r z), once_append l r o.1 q (λ b p z. h b p (inr z)))

pub chain_append : (m b p c q d s : ℕ) (l r : List Relay) → Chain m b p c q l → Chain m c q d s r → Chain m b p d s (l ++ r)
chain_append m b p c q d s [] r h g = subst (λ (y : ℕ). Chain m b y d s r) (sym h.1) (subst (λ (y : ℕ). Chain m y q d s r) (sym h.0) g)
chain_append m b p c q d s (x ∷ l) r h g = (h.0, chain_append m x.0 x.1 c q d s l r h.1 g)

-- ---- slots of one block

pub on-inside : (b p c : ℕ) (l : List ℕ) → On b p (inside c l) → (b ≡ c) × In p l
on-inside b p c [] h = absurd h
on-inside b p c (x ∷ l) (inl e) = (e.0, inl e.1)
on-inside b p c (x ∷ l) (inr h) = let r = on-inside b p c l h in (r.0, inr r.1)

pub once_inside : (b : ℕ) (l : List ℕ) → Fresh l → Once (inside b l)
once_inside b [] f = tt
once_inside b (x ∷ l) f = (λ h. f.0 (on-inside b x b l h).1, once_inside b l f.1)

pub length-inside : (b : ℕ) (l : List ℕ) → length (inside b l) ≡ length l
length-inside b [] = refl
length-inside b (x ∷ l) = ap suc (length-inside b l)

-- a walk in the cube of a block
pub chain_inside : (m b p q : ℕ) (l : List ℕ) → Walk (2 ^ m - 1) p q l → Chain m b p b q (inside b l)
chain_inside m b p q [] w = (refl, w)
chain_inside m b p q (x ∷ l) w = (inl (refl, (w.0, full-below m w.0 w.1, w.2)), chain_inside m b x q l w.3)

-- ---- a chain stays in the mesh

pub link_within : (m b p c q : ℕ) → Link m b p c q → p < 2 ^ m → b < 2 ^ (2 ^ m) → (q < 2 ^ m) × (c < 2 ^ (2 ^ m))
link_within m b p c q (inl e) hp hb =
    (subst (λ (y : ℕ). y < 2 ^ m) (sym e.1.2) (flip-lt m p e.1.0 hp e.1.1), subst (λ (y : ℕ). y < 2 ^ (2 ^ m)) e.0 hb)
link_within m b p c q (inr e) hp hb =
    (subst (λ (y : ℕ). y < 2 ^ m) e.0 hp, subst (λ (y : ℕ). y < 2 ^ (2 ^ m)) (sym e.1) (flip-lt (2 ^ m) b p hb hp))

-- ---- lists of numbers

pub in_append : (x : ℕ) (l r : List ℕ) → In x (l ++ r) → In x l ⊎ In x r
in_append x [] r h = inr h
in_append x (y ∷ l) r (inl e) = inl (inl e)
in_append x (y ∷ l) r (inr h) = ⊎_elim (λ z. inl (inr z)) inr (in_append x l r h)

pub in_left : (x : ℕ) (l r : List ℕ) → In x l → In x (l ++ r)
in_left x [] r h = absurd h
in_left x (y ∷ l) r (inl e) = inl e
in_left x (y ∷ l) r (inr h) = inr (in_left x l r h)

pub in_right : (x : ℕ) (l r : List ℕ) → In x r → In x (l ++ r)
in_right x [] r h = h
in_right x (y ∷ l) r h = inr (in_right x l r h)

pub fresh-append : (l r : List ℕ) → Fresh (l ++ r) → Fresh l × Fresh r × ((x : ℕ) → In x l → In x r → ⊥)
fresh-append [] r f = (tt, f, λ x h. absurd h)
fresh-append (y ∷ l) r f =
    let g = fresh-append l r f.1 in
    ((λ h. f.0 (in_left y l r h), g.0), g.1, λ x h q. not-cons (λ e. f.0 (in_right y l r (subst (λ (z : ℕ). In z r) e q))) (λ z. g.2 x z q) h)

-- one relay more at the end
pub walk_more : (free u t v : ℕ) (l : List ℕ) (i : ℕ) → Walk free u t l → bit i free ≡ 1 → v ≡ flip t i → Walk free u v (l ++ (v ∷ []))
walk_more free u t v [] i w o e = (i, o, e ∙ ap (λ (y : ℕ). flip y i) (sym w), refl)
walk_more free u t v (x ∷ l) i w o e = (w.0, w.1, w.2, walk_more free x t v l i w.3 o e)

pub fresh-more : (l : List ℕ) (v : ℕ) → Fresh l → (In v l → ⊥) → Fresh (l ++ (v ∷ []))
fresh-more [] v f n = ((λ z. z), tt)
fresh-more (x ∷ l) v f n =
    ((λ h. ⊎_elim f.0 (λ z. not-cons (λ e. n (inl (sym e))) (λ y. y) z) (in_append x l (v ∷ []) h)), fresh-more l v f.1 (λ h. n (inr h)))
