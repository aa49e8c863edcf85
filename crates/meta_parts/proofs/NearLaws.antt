-- The k + m relays that a relay of a metacube is linked to (`near`): the m bits of its class's own part changed, one at a time, and then the k bits of its class. What the test of a
-- link says of two relays that differ in bit j alone (`linked-bit`): j is a bit that the one may change (`opens`). These are its links (`doors`), and what follows is
-- told of any mesh (`links`). Assumes nothing.
use Rattle.std.specs.Prelude.{ℕ, ◌+◌, ◌-◌, ◌*◌, ◌/◌, ◌%◌, ◌^◌, ◌≤◌, ◌<◌, ◌≡◌, Bool, false, ◌&&◌, ◌||◌, ◌≢◌, ◌⊎◌, leb}
use Rattle.std.proofs.Math.Path.{refl, sym, ap, ap₂}
use Rattle.std.proofs.Common.{◌∙◌, inl, inr, mul_comm}
use Rattle.std.proofs.Math.Bool.{true}
use native.Mathlib.Omega.{arith}
use Rattle.std.proofs.Math.Decide.{ℕ_discrete}
use Rattle.std.proofs.Math.Arith.{digits_div}
use Rattle.std.specs.Int.Bits.{bit_xor, xor_self}
use Rattle.std.proofs.lemmas.Nat.{xor_lt}
use Rattle.std.specs.Int.Count.{ones}
use Rattle.std.proofs.Math.Dec.{eqb}
use borrow.Author.Tests.{eqb-true, eq-eqb, ne_eqb, le-leb, lt-leb, leb-true, lt-ltb, le-ltb}
use Rattle.bits.specs.Bit.{bit, flip, Lowest}
use Rattle.bits.specs.Laws.{lt-or-le, flip-moves, ones-one, ones-pow, pow-bit}
use Rattle.bits.specs.Parts.{xor-flip, flip_is_xor}
use Rattle.scan.specs.Scan.{pick}
use Rattle.scan.specs.Laws.{both_true, either_true}
use Rattle.paths.specs.Links.{Links}
use Rattle.paths.specs.Doors.{Doors}
use Rattle.paths.proofs.Doors.{door-links}
use Rattle.meta_parts.specs.Meta.{span, bits, relays, class_of, part, one, linked, meta}
use Rattle.meta_parts.specs.Parts.{class_below, class_high, class_low, part_in, part_out, bit_within, bit-part}
use Rattle.meta_parts.specs.Near.{opens, door, near}

-- ---- one bit differs

one-flip : (x y i : ℕ) → y ≡ flip x i → one x y ≡ true
unfolding one
one-flip x y i e = eq-eqb (ones (bit_xor x y)) 1 (ap ones (flip_is_xor x y i e) ∙ ones-pow i)

one_same : (x y : ℕ) → y ≡ x → one x y ≡ false
unfolding one ones
one_same x y e = ap (λ (z : ℕ). eqb (ones (bit_xor x z)) 1) e ∙ ap (λ (z : ℕ). eqb (ones z) 1) (xor_self x)

one_bit : (w x y : ℕ) → x < 2 ^ w → y < 2 ^ w → one x y ≡ true → (j : ℕ) × (j < w) × (y ≡ flip x j)
unfolding one
one_bit w x y hx hy e =
    let (j, l, z) = ones-one w (bit_xor x y) (xor_lt w x y hx hy) (eqb-true (ones (bit_xor x y)) 1 e) in
    (j, l, xor-flip x y j z)

-- as code finds it: one set bit of a word, and the lowest
pub lowest_flip : (x y j : ℕ) → x < 2 ^ 64 → y < 2 ^ 64 → ones (bit_xor x y) ≡ 1 → Lowest 64 (bit_xor x y) j → y ≡ flip x j
lowest_flip x y j hx hy e low =
    let (i, l, z) = ones-one 64 (bit_xor x y) (xor_lt 64 x y hx hy) e in
    xor-flip x y j (z ∙ ap (λ (n : ℕ). 2 ^ n) (sym (pow-bit j i (sym (ap (bit j) z) ∙ low.set))))

pub one-not : (x y : ℕ) → ones (bit_xor x y) ≢ 1 → one x y ≡ false
unfolding one
one-not x y ne = ne_eqb (ones (bit_xor x y)) 1 ne

-- ---- the test of a link

module _ (k m : ℕ) (some : 1 ≤ m) where
  quotient : (c i : ℕ) → i < m → (m * c + i) / m ≡ c
  quotient c i l = ap (λ (x : ℕ). (x + i) / m) (mul_comm m c) ∙ digits_div c l

  module _ (u v : ℕ) where
    abbrev c : ℕ
    c = class_of k m u

    -- by the tests that it is made of
    made : {a b d e : Bool} → one u v ≡ a → eqb (class_of k m u) (class_of k m v) ≡ b → one (part m c u) (part m c v) ≡ d → one (class_of k m u) (class_of k m v) ≡ e
        → linked k m u v ≡ (a && ((b && d) || e))
    unfolding linked
    made p q r s = ap₂ (λ (x y : Bool). x && y) p (ap₂ (λ (x y : Bool). x || y) (ap₂ (λ (x y : Bool). x && y) q r) s)

    pub linked-bit : (j : ℕ) → v ≡ flip u j → linked k m u v ≡ opens k m u j
    unfolding opens
    linked-bit j e = go (lt-or-le j (span k m)) (ℕ_discrete (j / m) c)
      where
        go : (j < span k m) ⊎ (span k m ≤ j) → Dec (j / m ≡ c) → linked k m u v ≡ (leb (span k m) j || eqb (j / m) c)
        go (inr h) d =
            let at : j ≡ span k m + (j - span k m) = omega arith in
            let class : class_of k m v ≡ flip c (j - span k m) = ap (class_of k m) (e ∙ ap (flip u) at) ∙ class_high k m u (j - span k m) in
            made (one-flip u v j e) (ne_eqb c (class_of k m v) (λ z. flip-moves c (j - span k m) (sym class ∙ sym z))) refl (one-flip c (class_of k m v) (j - span k m) class)
            ∙ sym (ap (λ (x : Bool). x || eqb (j / m) c) (le-leb (span k m) j h))
        go (inl l) (yes z) =
            let class : class_of k m v ≡ c = ap (class_of k m) e ∙ class_low k m u j l in
            let (a, b, at) = bit-part k m j some l in
            let mine : j ≡ m * c + j % m = at ∙ ap (λ (x : ℕ). m * x + j % m) z in
            made (one-flip u v j e) (eq-eqb c (class_of k m v) (sym class))
            (one-flip (part m c u) (part m c v) (j % m) (ap (part m c) (e ∙ ap (flip u) mine) ∙ part_in m c u (j % m) b)) (one_same c (class_of k m v) class)
            ∙ sym (ap₂ (λ (x y : Bool). x || y) (lt-leb (span k m) j l) (eq-eqb (j / m) c z))
        go (inl l) (no ne) =
            let class : class_of k m v ≡ c = ap (class_of k m) e ∙ class_low k m u j l in
            made (one-flip u v j e) (eq-eqb c (class_of k m v) (sym class))
            (one_same (part m c u) (part m c v) (ap (part m c) e ∙ part_out m c u j (λ i b z. ne (ap (λ (x : ℕ). x / m) z ∙ quotient c i b)))) (one_same c (class_of k m v) class)
            ∙ sym (ap₂ (λ (x y : Bool). x || y) (lt-leb (span k m) j l) (ne_eqb (j / m) c ne))

    linked-one : linked k m u v ≡ true → one u v ≡ true
    unfolding linked
    linked-one e = (both_true (one u v) _ e).0

    -- relays that do not differ in one bit are not linked
    pub linked-not : one u v ≡ false → linked k m u v ≡ false
    linked-not f = made f refl refl refl

  -- ---- the links of a relay

  module _ (u : ℕ) where
    door-part : (i : ℕ) → i < m → door k m u i ≡ m * class_of k m u + i
    unfolding door
    door-part i l = ap (λ (x : Bool). pick x (m * class_of k m u + i) (span k m + (i - m))) (lt-ltb i m l)

    door_class : (i : ℕ) → m ≤ i → door k m u i ≡ span k m + (i - m)
    unfolding door
    door_class i l = ap (λ (x : Bool). pick x (m * class_of k m u + i) (span k m + (i - m))) (le-ltb i m l)

    pub near-part : (i : ℕ) → i < m → near k m u i ≡ flip u (m * class_of k m u + i)
    unfolding near
    near-part i l = ap (flip u) (door-part i l)

    pub near_class : (i : ℕ) → m ≤ i → near k m u i ≡ flip u (span k m + (i - m))
    unfolding near
    near_class i l = ap (flip u) (door_class i l)

    module _ (h : u < relays k m) where
      door-low : (i : ℕ) → i < m → door k m u i < span k m
      door-low i l = omega (arith, door-part i l, bit_within k m (class_of k m u) i (class_below k m u h) l)

      door_within : (i : ℕ) → i < k + m → door k m u i < bits k m
      door_within i g = go (lt-or-le i m)
        where
          go : (i < m) ⊎ (m ≤ i) → door k m u i < bits k m
          go (inl l) = omega (arith, door-low i l)
          go (inr l) = omega (arith, door_class i l)

      door_differ : (i j : ℕ) → i < k + m → j < k + m → door k m u i ≡ door k m u j → i ≡ j
      door_differ i j g f e = go (lt-or-le i m) (lt-or-le j m)
        where
          go : (i < m) ⊎ (m ≤ i) → (j < m) ⊎ (m ≤ j) → i ≡ j
          go (inl l) (inl r) = omega (arith, e, door-part i l, door-part j r)
          go (inl l) (inr r) = absurd (omega (arith, e, door-low i l, door_class j r))
          go (inr l) (inl r) = absurd (omega (arith, e, door_class i l, door-low j r))
          go (inr l) (inr r) = omega (arith, e, door_class i l, door_class j r)

      -- the bit is one that the relay may change
      door-opens : (i : ℕ) → opens k m u (door k m u i) ≡ true
      unfolding opens
      door-opens i = go (lt-or-le i m)
        where
          go : (i < m) ⊎ (m ≤ i) → (leb (span k m) (door k m u i) || eqb (door k m u i / m) (class_of k m u)) ≡ true
          go (inl l) =
              ap₂ (λ (x y : Bool). x || y) (lt-leb (span k m) (door k m u i) (door-low i l))
              (eq-eqb (door k m u i / m) (class_of k m u) (ap (λ (x : ℕ). x / m) (door-part i l) ∙ quotient (class_of k m u) i l))
          go (inr l) = ap (λ (x : Bool). x || eqb (door k m u i / m) (class_of k m u)) (le-leb (span k m) (door k m u i) (omega (arith, door_class i l)))

      near-linked : (i : ℕ) → linked k m u (near k m u i) ≡ true
      unfolding near
      near-linked i = linked-bit u (flip u (door k m u i)) (door k m u i) refl ∙ door-opens i

      -- a bit that it may change is that of a link
      open_door : (j : ℕ) → j < bits k m → opens k m u j ≡ true → (i : ℕ) × (i < k + m) × (door k m u i ≡ j)
      unfolding opens
      open_door j g e = go (lt-or-le j (span k m)) (either_true (leb (span k m) j) (eqb (j / m) (class_of k m u)) e)
        where
          go : (j < span k m) ⊎ (span k m ≤ j) → (leb (span k m) j ≡ true) ⊎ (eqb (j / m) (class_of k m u) ≡ true) → (i : ℕ) × (i < k + m) × (door k m u i ≡ j)
          go (inr l) b = (m + (j - span k m), omega arith, door_class (m + (j - span k m)) (omega arith) ∙ omega arith)
          go (inl l) (inl t) = absurd (omega (arith, leb-true (span k m) j t))
          go (inl l) (inr t) =
              let (a, b, at) = bit-part k m j some l in
              (j % m, omega (arith, b), door-part (j % m) b ∙ ap (λ (x : ℕ). m * x + j % m) (sym (eqb-true (j / m) (class_of k m u) t)) ∙ sym at)

      linked-near : (v : ℕ) → v < relays k m → linked k m u v ≡ true → (i : ℕ) × (i < k + m) × (near k m u i ≡ v)
      unfolding near
      linked-near v g e =
          let (j, l, z) = one_bit (bits k m) u v h g (linked-one u v e) in
          let (i, r, y) = open_door j l (sym (linked-bit u v j z) ∙ e) in
          (i, r, ap (flip u) y ∙ sym z)

  -- a class bit may be changed in every class; a bit of the own part leaves the class as it is
  door_back : (u i : ℕ) → u < relays k m → door k m (flip u (door k m u i)) i ≡ door k m u i
  door_back u i h = go (lt-or-le i m)
    where
      go : (i < m) ⊎ (m ≤ i) → door k m (flip u (door k m u i)) i ≡ door k m u i
      go (inl l) =
          door-part (flip u (door k m u i)) i l
          ∙ ap (λ (x : ℕ). m * x + i) (class_low k m u (door k m u i) (door-low u h i l))
          ∙ sym (door-part u i l)
      go (inr l) = door_class (flip u (door k m u i)) i l ∙ sym (door_class u i l)

pub doors : (k m : ℕ) → 1 ≤ m → Doors (meta k m) (bits k m) (near k m) (door k m)
unfolding near
doors k m some = record {
  relays = refl;
  within = λ u i h l. door_within k m some u h i l;
  differ = λ u i j h l g e. door_differ k m some u h i j l g e;
  flips = λ u i h l. refl;
  back = λ u i h l. (i, l, door_back k m some u i h);
  linked = λ u i h l. near-linked k m some u h i;
  all = λ u v h g e. linked-near k m some u h v g e;
}

pub links : (k m : ℕ) → 1 ≤ m → Links (meta k m) (near k m)
links k m some = door-links (meta k m) (bits k m) (near k m) (door k m) (doors k m some)
