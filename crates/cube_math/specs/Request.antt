-- What may be asked of a fan through doors (`Request`), and that the two sides of a dimension may be asked (`near_request`, `far_request`).
-- Assumes nothing.
use Rattle.std.specs.Prelude.{ℕ, ◌+◌, ◌-◌, ◌≤◌, ◌<◌, ◌≡◌, ◌⊎◌, ◌≢◌, List}
use Rattle.std.proofs.Common.{sym, ap, ◌∙◌, subst, ⊎_elim, arith}
use Rattle.std.specs.Int.Count.{ones}
use Rattle.bits.specs.Bit.{bit, flip}
use Rattle.bits.specs.Laws.{bit-lt, flip-same, flip-other, same_or, flip_turns, flip-moves}
use Rattle.cube_math.specs.Doors.{Way, Doors}

-- the targets of the indices m are different relays of the cube, none of them s, and there are doors enough
pub record Request (free s shut m : ℕ) (to : ℕ → ℕ) : Type 0 where
  pub inside : (j : ℕ) → bit j m ≡ 1 → (c : ℕ) → bit c (to j) ≢ bit c s → bit c free ≡ 1
  pub other : (j : ℕ) → bit j m ≡ 1 → to j ≢ s
  pub differs : (i j : ℕ) → bit i m ≡ 1 → bit j m ≡ 1 → i ≢ j → to i ≢ to j
  pub held : (i : ℕ) → bit i shut ≡ 1 → bit i free ≡ 1
  pub room : ones m + ones shut ≤ ones free

-- each target that neighbours s is behind a shut door
abbrev pub Settled : (free s shut m : ℕ) (to : ℕ → ℕ) → Type 0
Settled free s shut m to = (j i : ℕ) → bit j m ≡ 1 → bit i free ≡ 1 → to j ≡ flip s i → bit i shut ≡ 1

-- the same targets, told otherwise
pub request_same : {free s shut m : ℕ} {to : ℕ → ℕ} (again : ℕ → ℕ) → ((j : ℕ) → bit j m ≡ 1 → again j ≡ to j) → Request free s shut m to → Request free s shut m again
request_same {free} {s} {shut} {m} {to} again e q = record {
  inside = λ j o c ne. q.inside j o c (λ z. ne (ap (bit c) (e j o) ∙ z));
  other = λ j o z. q.other j o (sym (e j o) ∙ z);
  differs = λ i j o p ne z. q.differs i j o p ne (sym (e i o) ∙ z ∙ e j p);
  held = q.held;
  room = q.room;
}

pub doors_same : {n free s shut m : ℕ} {to : ℕ → ℕ} {hops : ℕ → List ℕ} (again : ℕ → ℕ) → ((j : ℕ) → bit j m ≡ 1 → again j ≡ to j) → Doors n free s shut m to hops
    → Doors n free s shut m again hops
doors_same {n} {free} {s} {shut} {m} {to} {hops} again e f = record {
  each = λ j o. subst (λ (t : ℕ). Way n free s shut t (hops j)) (sym (e j o)) (f.each j o);
  apart = f.apart;
}

-- fewer targets, more doors shut
pub request_part : {free s shut m : ℕ} {to : ℕ → ℕ} (more part : ℕ) → Request free s shut m to → ((j : ℕ) → bit j part ≡ 1 → bit j m ≡ 1)
    → ((i : ℕ) → bit i more ≡ 1 → bit i free ≡ 1) → ones part + ones more ≤ ones free → Request free s more part to
request_part more part q sub held room = record {
  inside = λ j o. q.inside j (sub j o);
  other = λ j o. q.other j (sub j o);
  differs = λ i j o p. q.differs i j (sub i o) (sub j p);
  held = held;
  room = room;
}

-- `rest` is `free` less b
pub record Without (free b rest : ℕ) : Type 0 where
  pub divides : bit b free ≡ 1
  pub off : bit b rest ≡ 0
  pub same : (i : ℕ) → i ≢ b → bit i rest ≡ bit i free

pub without-flip : (free b : ℕ) → bit b free ≡ 1 → Without free b (flip free b)
without-flip free b o = record {
  divides = o;
  off = flip-same free b ∙ ap (λ (x : ℕ). 1 - x) o;
  same = λ i ne. flip-other free b i ne;
}

-- two bits that differ from a third are the same
bits-two : {x y z : ℕ} → x < 2 → y < 2 → z < 2 → x ≢ z → y ≢ z → x ≡ y
bits-two h g k p q = omega arith

module _ (free s shut m b rest : ℕ) (to : ℕ → ℕ) (q : Request free s shut m to) (k : Without free b rest) where
  -- the near side
  pub near_request : (shutN mn : ℕ) → ((j : ℕ) → bit j mn ≡ 1 → (bit j m ≡ 1) × (bit b (to j) ≡ bit b s))
      → ((i : ℕ) → bit i shutN ≡ 1 → bit i rest ≡ 1) → ones mn + ones shutN ≤ ones rest → Request rest s shutN mn to
  near_request shutN mn sub held room = record {
    inside = λ j o c ne.
        k.same c (λ e. ne (subst (λ (y : ℕ). bit y (to j) ≡ bit y s) (sym e) (sub j o).1)) ∙ q.inside j (sub j o).0 c ne;
    other = λ j o. q.other j (sub j o).0;
    differs = λ i j o p. q.differs i j (sub i o).0 (sub j p).0;
    held = held;
    room = room;
  }

  -- the far side: each target is an old one on that side and not f, or a neighbour of f
  pub far_request : (shutF mf : ℕ) (toF : ℕ → ℕ)
      → ((j : ℕ) → bit j mf ≡ 1 → ((bit j m ≡ 1) × (bit b (to j) ≢ bit b s) × (toF j ≡ to j) × (toF j ≢ flip s b)) ⊎ ((w : ℕ) × (bit w rest ≡ 1) × (toF j ≡ flip (flip s b) w)))
      → ((i j : ℕ) → bit i mf ≡ 1 → bit j mf ≡ 1 → i ≢ j → toF i ≢ toF j)
      → ((i : ℕ) → bit i shutF ≡ 1 → bit i rest ≡ 1) → ones mf + ones shutF ≤ ones rest → Request rest (flip s b) shutF mf toF
  far_request shutF mf toF sub differs held room = record {
    inside = λ j o c ne. ⊎_elim
        (λ a. let nb : c ≢ b = λ e. ne (ap (bit c) a.2
        ∙ subst (λ (y : ℕ). bit y (to j) ≡ bit y (flip s b)) (sym e) (bits-two (bit-lt b (to j)) (bit-lt b (flip s b)) (bit-lt b s) a.1 (flip_turns s b))) in
        k.same c nb ∙ q.inside j a.0 c (λ e. ne (ap (bit c) a.2 ∙ e ∙ sym (flip-other s b c nb))))
        (λ a. ⊎_elim (λ e. subst (λ (y : ℕ). bit y rest ≡ 1) (sym e) a.1) (λ z. absurd (ne (ap (bit c) a.2 ∙ flip-other (flip s b) a.0 c z))) (same_or c a.0))
        (sub j o);
    other = λ j o. ⊎_elim (λ a. a.3) (λ a e. flip-moves (flip s b) a.0 (sym a.2 ∙ e)) (sub j o);
    differs = differs;
    held = held;
    room = room;
  }
