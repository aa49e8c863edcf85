-- One hop: a bit of the own class's part is corrected, or the class moves on along the cycle while another part differs, or, where all parts agree, a bit of the class is
-- corrected (`turning`). So a hop is a link (`next-linked`) and stays in the mesh (`next-below`). Assumes nothing.
use Rattle.std.specs.Prelude.{ℕ, zero, suc, ◌+◌, ◌*◌, ◌/◌, ◌%◌, ◌^◌, ◌<◌, ◌≡◌, Bool, true, ◌≢◌, eqb, leb}
use Rattle.std.proofs.Math.Path.{sym, ap}
use Rattle.std.proofs.Common.{◌∙◌, subst, mul_comm, arith, eq-eqb, ne_eqb, le-leb}
use Rattle.std.proofs.Math.Decide.{ℕ_discrete}
use Rattle.std.proofs.Math.Arith.{digits_div}
use Rattle.std.specs.Int.Bits.{bit_xor}
use Rattle.std.proofs.lemmas.Nat.{xor_lt}
use Rattle.std.specs.Int.Count.{count_trailing_zeros}
use Rattle.std.proofs.Math.Pow.{pow-lt}
use Rattle.bits.specs.Bit.{bit, flip, Lowest}
use Rattle.bits.specs.Laws.{bit-none, bit-pow-same, clash, flip-lt, pow-bit, trailing_lowest, xor-zero-eq}
use Rattle.bits.specs.Parts.{bit-mod, flip_is_xor, lowest_alike}
use Rattle.scan.specs.Scan.{pick}
use Rattle.scan.specs.Laws.{first-true, second-true}
use Rattle.meta_parts.specs.Meta.{span, bits, relays, class_of, parts_of, part, linked}
use Rattle.meta_parts.specs.Sizes.{Sized}
use Rattle.meta_parts.specs.Parts.{class_below, parts_below, same_parts, parts_xor, part-below, part-bit, bit_within, bit-part}
use Rattle.meta_parts.specs.Near.{opens}
use Rattle.meta_parts.proofs.NearLaws.{linked-bit}
use Rattle.meta.specs.Cycle.{after}
use Rattle.meta.proofs.Cycle.{after_flips}
use Rattle.meta.specs.Next.{heading, turn, next}

-- ---- a number that is not 0 has a set bit

set-bit : (n x : ℕ) → x ≢ 0 → x < 2 ^ n → (i : ℕ) × (i < n) × (bit i x ≡ 1)
set-bit n x ne h = let low = trailing_lowest n x ne h in (count_trailing_zeros n x, low.within, low.set)

pub some-bit : (x i : ℕ) → bit i x ≡ 1 → x ≢ 0
some-bit x i o z = clash (ap (bit i) z ∙ bit-none i) o

-- ---- what of the parts differs, of two relays that differ in the bits of y

module _ (k m : ℕ) (s : Sized k m) (y : ℕ) where
  -- a bit of a part is one of the parts
  pub part-of_parts : (e i : ℕ) → e < 2 ^ k → i < m → bit (m * e + i) (parts_of k m y) ≡ bit i (part m e y)
  unfolding parts_of
  part-of_parts e i h l = bit-mod (span k m) (m * e + i) y (bit_within k m e i h l) ∙ sym (part-bit m e y i l)

  -- where some part differs, one does
  pub some-part : parts_of k m y ≢ 0 → (e : ℕ) × (e < 2 ^ k) × (part m e y ≢ 0)
  some-part ne =
      let (j, l, o) = set-bit (span k m) (parts_of k m y) ne (parts_below k m y) in
      let (a, b, at) = bit-part k m j s.some l in
      (j / m, a, some-bit (part m (j / m) y) (j % m) (sym (part-of_parts (j / m) (j % m) a b) ∙ ap (λ (x : ℕ). bit x (parts_of k m y)) (sym at) ∙ o))

  -- where all agree, each does
  pub no_part : parts_of k m y ≡ 0 → (e : ℕ) → e < 2 ^ k → part m e y ≡ 0
  no_part z e h = go (ℕ_discrete (part m e y) 0)
    where
      go : Dec (part m e y ≡ 0) → part m e y ≡ 0
      go (yes q) = q
      go (no ne) =
          let (i, l, o) = set-bit m (part m e y) ne (part-below m e y) in
          absurd (clash (ap (bit (m * e + i)) z ∙ bit-none (m * e + i)) (part-of_parts e i h l ∙ o))

-- ---- where the class goes

module _ (k m c d y : ℕ) where
  pub heading_done : parts_of k m y ≡ 0 → heading k m c d y ≡ d
  unfolding heading
  heading_done z = ap (λ (b : Bool). pick b d (after k c)) (eq-eqb (parts_of k m y) 0 z)

  pub heading-on : parts_of k m y ≢ 0 → heading k m c d y ≡ after k c
  unfolding heading
  heading-on z = ap (λ (b : Bool). pick b d (after k c)) (ne_eqb (parts_of k m y) 0 z)

-- ---- one hop

module _ (k m : ℕ) (s : Sized k m) (u t : ℕ) (hu : u < relays k m) (ht : t < relays k m) (ne : u ≢ t) where
  abbrev c : ℕ
  c = class_of k m u

  abbrev d : ℕ
  d = class_of k m t

  abbrev y : ℕ
  y = bit_xor u t

  hc : c < 2 ^ k
  hc = class_below k m u hu

  hd : d < 2 ^ k
  hd = class_below k m t ht

  abbrev low : ℕ
  low = count_trailing_zeros m (part m c y)

  abbrev top : ℕ
  top = count_trailing_zeros k (bit_xor c (heading k m c d y))

  turn-part : part m c y ≢ 0 → turn k m c d y ≡ m * c + count_trailing_zeros m (part m c y)
  unfolding turn
  turn-part z = ap (λ (b : Bool). pick b (span k m + top) (m * c + low)) (ne_eqb (part m c y) 0 z)

  turn_class : part m c y ≡ 0 → turn k m c d y ≡ span k m + count_trailing_zeros k (bit_xor c (heading k m c d y))
  unfolding turn
  turn_class z = ap (λ (b : Bool). pick b (span k m + top) (m * c + low)) (eq-eqb (part m c y) 0 z)

  -- where another part differs there is more than one class
  classes : part m c y ≡ 0 → parts_of k m y ≢ 0 → 0 < k
  classes z some = let (e, l, o) = some-part k m s y some in more k hc l (λ q. o (ap (λ (x : ℕ). part m x y) q ∙ z))
    where
      more : (k : ℕ) {e c : ℕ} → c < 2 ^ k → e < 2 ^ k → e ≢ c → 0 < k
      more zero h g q = absurd (omega arith)
      more (suc k) h g q = omega arith

  -- the next class has one bit changed
  abbrev x : ℕ
  x = bit_xor c (heading k m c d y)

  one-step : part m c y ≡ 0 → parts_of k m y ≢ 0 → (b : ℕ) × (b < k) × (flip c b ≡ after k c) × (x ≡ 2 ^ b)
  one-step z some =
      let (b, l, e) = after_flips k c s.few hc (classes z some) in
      (b, l, e, flip_is_xor c (heading k m c d y) b (heading-on k m c d y some ∙ sym e))

  -- the target's class is another where all parts agree
  other_class : parts_of k m y ≡ 0 → x ≡ bit_xor c d
  other_class z = ap (bit_xor c) (heading_done k m c d y z)

  apart : parts_of k m y ≡ 0 → bit_xor c d ≢ 0
  apart z e = ne (same_parts k m u t (xor-zero-eq c d e) (xor-zero-eq (parts_of k m u) (parts_of k m t) (sym (parts_xor k m u t) ∙ z)))

  -- so the class to go to is another, of as many bits
  pub class_differs : part m c y ≡ 0 → (bit_xor (class_of k m u) (heading k m (class_of k m u) (class_of k m t) (bit_xor u t)) ≢ 0) × (bit_xor (class_of k m u) (heading k m (class_of k m u) (class_of k m t) (bit_xor u t)) < 2 ^ k)
  class_differs z = go (ℕ_discrete (parts_of k m y) 0)
    where
      go : Dec (parts_of k m y ≡ 0) → (x ≢ 0) × (x < 2 ^ k)
      go (yes w) = ((λ e. apart w (sym (other_class w) ∙ e)), subst (λ (n : ℕ). n < 2 ^ k) (sym (other_class w)) (xor_lt k c d hc hd))
      go (no w) = let (b, l, f, e) = one-step z w in (some-bit x b (ap (bit b) e ∙ bit-pow-same b), subst (λ (n : ℕ). n < 2 ^ k) (sym e) (pow-lt l))

  lowest_class : (z : part m c y ≡ 0) → Lowest k x top
  lowest_class z = let (some, few) = class_differs z in trailing_lowest k x some few

  moved : (z : part m c y ≡ 0) → parts_of k m y ≢ 0 → flip c top ≡ after k c
  moved z w =
      let (b, l, f, e) = one-step z w in
      ap (flip c) (pow-bit top b (ap (bit top) (sym e) ∙ (lowest_class z).set)) ∙ f

  -- ---- as code finds it

  pub turn_class_is : (j : ℕ) → part m (class_of k m u) (bit_xor u t) ≡ 0 → Lowest 64 (bit_xor (class_of k m u) (heading k m (class_of k m u) (class_of k m t) (bit_xor u t))) j
      → (j < k) × (span k m + j ≡ turn k m (class_of k m u) (class_of k m t) (bit_xor u t))
  turn_class_is j z low =
      let same : j ≡ top = lowest_alike 64 k x j top low (lowest_class z) in
      (omega (arith, same, (lowest_class z).within), ap (λ (n : ℕ). span k m + n) same ∙ sym (turn_class z))

  pub turn-part_is : (j : ℕ) → part m (class_of k m u) (bit_xor u t) ≢ 0 → Lowest 64 (part m (class_of k m u) (bit_xor u t)) j
      → (j < m) × (m * class_of k m u + j ≡ turn k m (class_of k m u) (class_of k m t) (bit_xor u t))
  turn-part_is j z lowest =
      let mine = trailing_lowest m (part m c y) z (part-below m c y) in
      let same : j ≡ low = lowest_alike 64 m (part m c y) j low lowest mine in
      (omega (arith, same, mine.within), ap (λ (n : ℕ). m * c + n) same ∙ sym (turn-part z))

  -- a hop: along the own part, on along the cycle, or along the class
  pub data Turning : Type 0 where
    inside : (i : ℕ) → i < m → bit i (part m c y) ≡ 1 → turn k m c d y ≡ m * c + i → Turning
    onward : (b : ℕ) → b < k → part m c y ≡ 0 → parts_of k m y ≢ 0 → flip c b ≡ after k c → turn k m c d y ≡ span k m + b → Turning
    homeward : (b : ℕ) → b < k → parts_of k m y ≡ 0 → bit b (bit_xor c d) ≡ 1 → turn k m c d y ≡ span k m + b → Turning

  pub turning : Turning
  turning = go (ℕ_discrete (part m c y) 0) (ℕ_discrete (parts_of k m y) 0)
    where
      go : Dec (part m c y ≡ 0) → Dec (parts_of k m y ≡ 0) → Turning
      go (no z) w = let lowest = trailing_lowest m (part m c y) z (part-below m c y) in inside low lowest.within lowest.set (turn-part z)
      go (yes z) (no w) = onward top (lowest_class z).within z w (moved z w) (turn_class z)
      go (yes z) (yes w) = homeward top (lowest_class z).within w (ap (bit top) (sym (other_class w)) ∙ (lowest_class z).set) (turn_class z)

  pub next_flips : next k m u t ≡ flip u (turn k m (class_of k m u) (class_of k m t) (bit_xor u t))
  unfolding next
  next_flips = ap (λ (b : Bool). pick b u (flip u (turn k m c d y))) (ne_eqb u t ne)

  turn_within : Turning → turn k m c d y < bits k m
  turn_within (inside i l o e) = omega (arith, e, bit_within k m c i hc l)
  turn_within (onward b l z w f e) = omega (arith, e)
  turn_within (homeward b l z o e) = omega (arith, e)

  pub turn_below : turn k m (class_of k m u) (class_of k m t) (bit_xor u t) < bits k m
  turn_below = turn_within turning

  pub next-below : next k m u t < relays k m
  next-below = rw next_flips (flip-lt (bits k m) u (turn k m c d y) hu turn_below)

  turn-opens : Turning → opens k m u (turn k m c d y) ≡ true
  unfolding opens
  turn-opens (inside i l o e) =
      second-true (leb (span k m) (turn k m c d y)) (eqb (turn k m c d y / m) c)
      (eq-eqb (turn k m c d y / m) c (ap (λ (x : ℕ). x / m) (e ∙ ap (λ (x : ℕ). x + i) (mul_comm m c)) ∙ digits_div c l))
  turn-opens (onward b l z w f e) = first-true (leb (span k m) (turn k m c d y)) (eqb (turn k m c d y / m) c) (le-leb (span k m) (turn k m c d y) (omega (arith, e)))
  turn-opens (homeward b l z o e) = first-true (leb (span k m) (turn k m c d y)) (eqb (turn k m c d y / m) c) (le-leb (span k m) (turn k m c d y) (omega (arith, e)))

  pub next-linked : linked k m u (next k m u t) ≡ true
  next-linked = linked-bit k m s.some u (next k m u t) (turn k m c d y) next_flips ∙ turn-opens turning
