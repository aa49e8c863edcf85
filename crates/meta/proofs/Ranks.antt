-- How far it is to the target, at most (`rank`): while some part differs, the differing part bits, the moves of the class to the last class whose part differs, and its k bits; then the
-- differing class bits. Each hop brings it down (`next-less`), and at the start it is at most 2 ^ k - 1 + k above the differing part bits (`rank_bound`). Assumes nothing.
use Rattle.std.specs.Prelude.{ℕ, ◌+◌, ◌-◌, ◌*◌, ◌^◌, ◌≤◌, ◌<◌, ◌≡◌, Bool, ◌≢◌, eqb}
use Rattle.std.proofs.Common.{sym, ap₂, ◌∙◌, ⊎_elim, arith, eq-eqb, ne_eqb}
use Rattle.std.proofs.Math.Path.{ap, subst}
use Rattle.std.proofs.Math.Decide.{ℕ_discrete}
use Rattle.std.specs.Int.Bits.{bit_xor}
use Rattle.std.proofs.lemmas.Nat.{xor_lt, ones-le}
use Rattle.std.specs.Int.Count.{ones, count_trailing_zeros}
use Rattle.bits.specs.Bit.{bit, flip}
use Rattle.bits.specs.Laws.{bit-none, clash, flip-other, flip-xor, ones_clear, same_or, trailing_lowest}
use Rattle.scan.specs.Scan.{pick}
use Rattle.meta_parts.specs.Meta.{span, relays, longest, class_of, parts_of, part}
use Rattle.meta_parts.specs.Sizes.{Sized}
use Rattle.meta_parts.specs.Parts.{class_below, parts_below, class_high, parts_high, class_low, parts_low, part-below, part-bit, part_out, bit_within}
use Rattle.meta.specs.Cycle.{after}
use Rattle.meta.proofs.Cycle.{away-few, away-step}
use Rattle.meta.specs.Far.{far, far-most, far_least, far_fewer, far-moved}
use Rattle.meta.specs.Next.{next}
use Rattle.meta.proofs.Turns.{Turning, inside, onward, homeward, turning, next_flips, part-of_parts, some-part, some-bit}

-- between classes c and d, where the bits of y differ
unfoldable pub rest : (k m c d y : ℕ) → ℕ
rest k m c d y = pick (eqb (parts_of k m y) 0) (ones (bit_xor c d)) (ones (parts_of k m y) + far k m c y (2 ^ k) + k)

unfoldable pub rank : (k m u t : ℕ) → ℕ
rank k m u t = rest k m (class_of k m u) (class_of k m t) (bit_xor u t)

rest_done : (k m c d y : ℕ) → parts_of k m y ≡ 0 → rest k m c d y ≡ ones (bit_xor c d)
unfolding rest
rest_done k m c d y z = ap (λ (b : Bool). pick b (ones (bit_xor c d)) (ones (parts_of k m y) + far k m c y (2 ^ k) + k)) (eq-eqb (parts_of k m y) 0 z)

rest-on : (k m c d y : ℕ) → parts_of k m y ≢ 0 → rest k m c d y ≡ ones (parts_of k m y) + far k m c y (2 ^ k) + k
unfolding rest
rest-on k m c d y z = ap (λ (b : Bool). pick b (ones (bit_xor c d)) (ones (parts_of k m y) + far k m c y (2 ^ k) + k)) (ne_eqb (parts_of k m y) 0 z)

-- a corrected bit makes no part differ that did not
clears : (m e y j : ℕ) → bit j y ≡ 1 → part m e (flip y j) ≢ 0 → part m e y ≢ 0
clears m e y j o ne z =
    let low = trailing_lowest m (part m e (flip y j)) ne (part-below m e (flip y j)) in
    let i = count_trailing_zeros m (part m e (flip y j)) in
    let on : bit (m * e + i) (flip y j) ≡ 1 = sym (part-bit m e (flip y j) i low.within) ∙ low.set in
    let off : bit (m * e + i) y ≡ 0 = sym (part-bit m e y i low.within) ∙ ap (bit i) z ∙ bit-none i in
    ⊎_elim (λ (q : m * e + i ≡ j). clash off (ap (λ (x : ℕ). bit x y) q ∙ o))
    (λ q. clash (flip-other y j (m * e + i) q ∙ off) on) (same_or (m * e + i) j)

module _ (k m : ℕ) (s : Sized k m) where
  -- at most so many moves
  far-few : (c y : ℕ) → c < 2 ^ k → far k m c y (2 ^ k) ≤ 2 ^ k - 1
  far-few c y h = far-most k m c y (2 ^ k - 1) (2 ^ k) (λ e l. omega (arith, away-few k c e s.few h l))

  module _ (t : ℕ) (ht : t < relays k m) where
    rest_bound : (u : ℕ) → u < relays k m → Dec (parts_of k m (bit_xor u t) ≡ 0)
        → rest k m (class_of k m u) (class_of k m t) (bit_xor u t) ≤ 2 ^ k - 1 + k + ones (parts_of k m (bit_xor u t))
    rest_bound u h (yes z) =
        omega (
          arith,
          rest_done k m (class_of k m u) (class_of k m t) (bit_xor u t) z,
          ones-le k (bit_xor (class_of k m u) (class_of k m t)) (xor_lt k (class_of k m u) (class_of k m t) (class_below k m u h) (class_below k m t ht)),
        )
    rest_bound u h (no z) =
        omega (
          arith,
          rest-on k m (class_of k m u) (class_of k m t) (bit_xor u t) z,
          far-few (class_of k m u) (bit_xor u t) (class_below k m u h),
        )

    pub rank_bound : (u : ℕ) → u < relays k m → rank k m u t ≤ 2 ^ k - 1 + k + ones (parts_of k m (bit_xor u t))
    unfolding rank
    rank_bound u h = rest_bound u h (ℕ_discrete (parts_of k m (bit_xor u t)) 0)

    pub rank-longest : (u : ℕ) → u < relays k m → rank k m u t ≤ longest k m
    rank-longest u h = omega (arith, rank_bound u h, ones-le (span k m) (parts_of k m (bit_xor u t)) (parts_below k m (bit_xor u t)))

    -- ---- a hop brings it down

    module _ (u : ℕ) (hu : u < relays k m) (ne : u ≢ t) where
      abbrev c : ℕ
      c = class_of k m u

      abbrev d : ℕ
      d = class_of k m t

      abbrev y : ℕ
      y = bit_xor u t

      hc : c < 2 ^ k
      hc = class_below k m u hu

      -- along the own part
      module _ (i : ℕ) (l : i < m) (o : bit i (part m c y) ≡ 1) where
        abbrev j : ℕ
        j = m * c + i

        on : bit j (parts_of k m y) ≡ 1
        on = part-of_parts k m s y c i hc l ∙ o

        fewer : ones (parts_of k m (flip y j)) + 1 ≡ ones (parts_of k m y)
        fewer = ap (λ (x : ℕ). ones x + 1) (parts_low k m y j (bit_within k m c i hc l)) ∙ ones_clear j (parts_of k m y) on

        nearer : far k m c (flip y j) (2 ^ k) ≤ far k m c y (2 ^ k)
        nearer = far_fewer k m c (flip y j) y (2 ^ k) (λ e h. clears m e y j (sym (part-bit m c y i l) ∙ o))

        before : rest k m c d y ≡ ones (parts_of k m y) + far k m c y (2 ^ k) + k
        before = rest-on k m c d y (some-bit (parts_of k m y) j on)

        falls_inside : rest k m c d (flip y (m * c + i)) < rest k m c d y
        falls_inside = go (ℕ_discrete (parts_of k m (flip y j)) 0)
          where
            go : Dec (parts_of k m (flip y j) ≡ 0) → rest k m c d (flip y j) < rest k m c d y
            go (yes z) = omega (arith, rest_done k m c d (flip y j) z, ones-le k (bit_xor c d) (xor_lt k c d hc (class_below k m t ht)), before, fewer)
            go (no z) = omega (arith, rest-on k m c d (flip y j) z, before, fewer, nearer)

      -- a changed class bit leaves every part
      module _ (b : ℕ) where
        same : parts_of k m (flip y (span k m + b)) ≡ parts_of k m y
        same = parts_high k m y b

        stays : (e : ℕ) → e < 2 ^ k → part m e (flip y (span k m + b)) ≡ part m e y
        stays e h = part_out m e y (span k m + b) (λ i l z. omega (arith, z, bit_within k m e i h l))

        -- on along the cycle
        falls_onward : part m c y ≡ 0 → parts_of k m y ≢ 0 → rest k m (after k c) d (flip y (span k m + b)) < rest k m c d y
        falls_onward z w =
            let (e, h, o) = some-part k m s y w in
            let other : (e : ℕ) → part m e y ≢ 0 → c ≢ e = λ e g q. g (ap (λ (x : ℕ). part m x y) (sym q) ∙ z) in
            let fewer = far_fewer k m (after k c) (flip y (span k m + b)) y (2 ^ k) (λ e h g q. g (stays e h ∙ q)) in
            let less = far-moved k m c (after k c) y (2 ^ k) (λ e h g. away-step k c e s.few hc h (other e g)) in
            omega (
              arith,
              rest-on k m (after k c) d (flip y (span k m + b)) (λ q. w (sym same ∙ q)),
              rest-on k m c d y w,
              ap ones same,
              fewer,
              less,
              far_least k m c y (2 ^ k) e h o,
              away-step k c e s.few hc h (other e o),
            )

        -- along the class
        falls_homeward : parts_of k m y ≡ 0 → bit b (bit_xor c d) ≡ 1 → rest k m (flip c b) d (flip y (span k m + b)) < rest k m c d y
        falls_homeward z o =
            omega (
              arith,
              rest_done k m (flip c b) d (flip y (span k m + b)) (same ∙ z),
              rest_done k m c d y z,
              ap ones (flip-xor c b d),
              ones_clear b (bit_xor c d) o,
            )

      falls : Turning k m s u t hu ht ne → rank k m (next k m u t) t < rank k m u t
      unfolding rank
      falls (inside i l o e) =
          let to : next k m u t ≡ flip u (m * c + i) = next_flips k m s u t hu ht ne ∙ ap (flip u) e in
          let class : class_of k m (next k m u t) ≡ c = ap (class_of k m) to ∙ class_low k m u (m * c + i) (bit_within k m c i hc l) in
          let bits : bit_xor (next k m u t) t ≡ flip y (m * c + i) = ap (λ (x : ℕ). bit_xor x t) to ∙ flip-xor u (m * c + i) t in
          subst (λ (x : ℕ). x < rest k m c d y) (sym (ap₂ (λ (x z : ℕ). rest k m x d z) class bits)) (falls_inside i l o)
      falls (onward b l z w f e) =
          let to : next k m u t ≡ flip u (span k m + b) = next_flips k m s u t hu ht ne ∙ ap (flip u) e in
          let class : class_of k m (next k m u t) ≡ after k c = ap (class_of k m) to ∙ class_high k m u b ∙ f in
          let bits : bit_xor (next k m u t) t ≡ flip y (span k m + b) = ap (λ (x : ℕ). bit_xor x t) to ∙ flip-xor u (span k m + b) t in
          subst (λ (x : ℕ). x < rest k m c d y) (sym (ap₂ (λ (x z : ℕ). rest k m x d z) class bits)) (falls_onward b z w)
      falls (homeward b l z o e) =
          let to : next k m u t ≡ flip u (span k m + b) = next_flips k m s u t hu ht ne ∙ ap (flip u) e in
          let class : class_of k m (next k m u t) ≡ flip c b = ap (class_of k m) to ∙ class_high k m u b in
          let bits : bit_xor (next k m u t) t ≡ flip y (span k m + b) = ap (λ (x : ℕ). bit_xor x t) to ∙ flip-xor u (span k m + b) t in
          subst (λ (x : ℕ). x < rest k m c d y) (sym (ap₂ (λ (x z : ℕ). rest k m x d z) class bits)) (falls_homeward b z o)

      pub next-less : rank k m (next k m u t) t < rank k m u t
      next-less = falls (turning k m s u t hu ht ne)
