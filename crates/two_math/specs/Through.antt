-- A path through blocks by walks inside each. Assumes nothing.
use Rattle.std.specs.Prelude.{ℕ, suc, ◌+◌, ◌-◌, ◌*◌, ◌^◌, ◌≤◌, ◌<◌, ◌≡◌, refl, ◌≢◌, List, [], ◌∷◌, ◌++◌, length}
use Rattle.std.proofs.Common.{sym, ap, ◌∙◌, subst, inl, inr, ⊎_elim, suc-mul, arith, length-append}
use Rattle.std.specs.Int.Count.{ones-ones}
use Rattle.bits.specs.Bit.{bit, flip}
use Rattle.bits.specs.Laws.{lt-or-le}
use Rattle.cube_math.specs.Doors.{In, Fresh, Walk}
use Rattle.cube_math.specs.Plain.{full-below, bit-full, bit_high}
use Rattle.cube_math.specs.Single.{rank, rank-le, tail_none, tail_all}
use Rattle.two_math.specs.Relays.{Relay, On, Once, Chain, inside, on-append, once_append, chain_append, on-inside, once_inside, length-inside, chain_inside}

-- a walk in a block from the slot p to the slot q, with no repeats
pub record Stroll (m p q : ℕ) (l : List ℕ) : Type 0 where
  pub walk : Walk (2 ^ m - 1) p q l
  pub fresh : Fresh (p ∷ l)
  pub short : length l ≤ m

-- from (b, p) through the door p, in turn into each of the blocks, with a walk to the next door in each, to the slot q of the last block g
abbrev pub Crosses : ℕ → ℕ → ℕ → ℕ → ℕ → List ℕ → List Relay → Type 0
Crosses m b p g q [] l = (b ≡ g) × (p ≡ q) × (l ≡ [])
Crosses m b p g q (c ∷ r) l =
    (e : ℕ) × (w : List ℕ) × (o : List Relay) × (c ≡ flip b p) × Stroll m p e w × Crosses m c e g q r o × (l ≡ inside c (p ∷ w) ++ o)

pub crosses_chain : (m b p g q : ℕ) (r : List ℕ) (l : List Relay) → Crosses m b p g q r l → Chain m b p g q l
crosses_chain m b p g q [] l k = rw k.2 (k.0, k.1)
crosses_chain m b p g q (c ∷ r) l k =
    rw k.6 (inr (refl, k.3), chain_append m c p c k.0 g q (inside c k.1) k.2 (chain_inside m c p k.0 k.1 k.4.walk) (crosses_chain m c k.0 g q r k.2 k.5))

-- its relays lie in those blocks
pub crosses_in : (m b p g q : ℕ) (r : List ℕ) (l : List Relay) → Crosses m b p g q r l → (x y : ℕ) → On x y l → In x r
crosses_in m b p g q [] l k x y h = subst (λ (z : List Relay). On x y z) k.2 h
crosses_in m b p g q (c ∷ r) l k x y h =
    ⊎_elim (λ z. inl (on-inside x y c (p ∷ k.1) z).0) (λ z. inr (crosses_in m c k.0 g q r k.2 k.5 x y z))
    (on-append x y (inside c (p ∷ k.1)) k.2 (subst (λ (z : List Relay). On x y z) k.6 h))

-- no repeats
pub crosses_once : (m b p g q : ℕ) (r : List ℕ) (l : List Relay) → Crosses m b p g q r l → Fresh r → Once l
crosses_once m b p g q [] l k f = rw k.2 tt
crosses_once m b p g q (c ∷ r) l k f =
    subst (λ (z : List Relay). Once z) (sym k.6) (once_append (inside c (p ∷ k.1)) k.2 (once_inside c (p ∷ k.1) k.4.fresh)
    (crosses_once m c k.0 g q r k.2 k.5 f.1)
    (λ x y z o. f.0 (subst (λ (i : ℕ). In i r) (on-inside x y c (p ∷ k.1) z).0 (crosses_in m c k.0 g q r k.2 k.5 x y o))))

-- at most m + 1 hops for each block
pub crosses_short : (m b p g q : ℕ) (r : List ℕ) (l : List Relay) → Crosses m b p g q r l → length l ≤ length r * suc m
crosses_short m b p g q [] l k = rw k.2 (omega arith)
crosses_short m b p g q (c ∷ r) l k =
    let ih = crosses_short m c k.0 g q r k.2 k.5 in
    let size : length l ≡ suc (length (inside c k.1) + length k.2) = ap length k.6 ∙ ap suc (length-append (inside c k.1) k.2) in
    omega (arith, length-inside c k.1, k.4.short, suc-mul (length r) (suc m))

-- ---- there are such walks

inside-full : (m x y : ℕ) → x < 2 ^ m → y < 2 ^ m → (c : ℕ) → bit c x ≢ bit c y → bit c (2 ^ m - 1) ≡ 1
inside-full m x y hx hy c ne = ⊎_elim (bit-full m c) (λ g. absurd (ne (bit_high m c x hx g ∙ sym (bit_high m c y hy g)))) (lt-or-le c m)

-- Tail is about a dimension i of its own: one above all of the block's serves
pub stroll : (m p q : ℕ) → p < 2 ^ m → q < 2 ^ m → (l : List ℕ) × Stroll m p q l
stroll m p q hp hq =
    let h = inside-full m q p hq hp in
    let e : bit m q ≡ bit m p = bit_high m m q hq (omega arith) ∙ sym (bit_high m m p hp (omega arith)) in
    let t = tail_all {free = 2 ^ m - 1} {goal = p} {i = m} {d = q} (rank p q) q [] refl e (tail_none (2 ^ m - 1) p m q h) in
    (t.0, record { walk = t.1.walk; fresh = t.1.fresh; short = omega (arith, t.1.hops, rank-le (2 ^ m - 1) p q h, ones-ones m) })

-- a walk over blocks whose first door is p
pub through : (m b p g q : ℕ) (r : List ℕ) → Walk (2 ^ (2 ^ m) - 1) b g r → p < 2 ^ m → q < 2 ^ m → (c : ℕ) (l : List ℕ) → r ≡ c ∷ l → c ≡ flip b p
    → (o : List Relay) × Crosses m b p g q r o
through m b p g q [] w hp hq c l e f = let z : ◌≡◌ {A = ℕ} 0 1 = cc in absurd (omega arith)
through m b p g q (v ∷ []) w hp hq c l e f =
    let first : v ≡ c = cc in
    let s = stroll m p q hp hq in
    (inside v (p ∷ s.0) ++ [], (q, s.0, [], first ∙ f, s.1, (w.3, refl, refl), refl))
through m b p g q (v ∷ u ∷ r) w hp hq c l e f =
    let first : v ≡ c = cc in
    let d : w.3.0 < 2 ^ m = full-below (2 ^ m) w.3.0 w.3.1 in
    let s = stroll m p w.3.0 hp d in
    let t = through m v w.3.0 g q (u ∷ r) w.3 d hq u r refl w.3.2 in
    (inside v (p ∷ s.0) ++ t.0, (w.3.0, s.0, t.0, first ∙ f, s.1, t.1, refl))
