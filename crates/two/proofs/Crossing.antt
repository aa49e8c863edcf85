-- The choice of the block bit to correct first. It is one in which the blocks differ (`crossing-below`, `crossing-bit`); the next one comes later in the
-- Gray order (`place_later`), and the walk to it takes no more hops than the order takes steps (`crossing-near`). Assumes nothing.
use Rattle.std.specs.Prelude.{ℕ, ◌-◌, ◌^◌, ◌≤◌, ◌<◌, ◌≡◌, ◌⊎◌, ◌≢◌}
use Rattle.std.proofs.Math.Path.{refl, subst}
use Rattle.std.proofs.Common.{sym, ap, ◌∙◌, inl, inr, arith}
use Rattle.std.specs.Int.Bits.{bit_xor}
use Rattle.std.specs.Int.Count.{ones, count_trailing_zeros}
use borrow.Author.Tests.{eqb-true, eq-eqb}
use Rattle.bits.specs.Bit.{bit, flip}
use Rattle.bits.specs.Laws.{trailing_lowest, flip-lt, flip-same, flip-other, clash, same_or, lt-or-le, bit_off}
use Rattle.bits.specs.Gray.{gray, gray-lt, gray_onto, gray-near}
use Rattle.scan.specs.Scan.{any}
use Rattle.scan.specs.Laws.{First, found_at, seek-first, true-any}
use Rattle.paths.specs.Walk.{number}
use Rattle.two_parts.specs.Two.{slots, blocks}
use Rattle.two.specs.Next.{differing, place, crossing}

module _ (m x : ℕ) (ne : x ≢ 0) (h : x < blocks m) where
  -- there is one in which the blocks differ, and it is the first of the order
  pub place-first : First (differing x) 0 (slots m) (place m x)
  unfolding place differing any
  place-first =
      let low = trailing_lowest (2 ^ m) x ne h in
      let (i, l, e) = gray_onto m (count_trailing_zeros (2 ^ m) x) low.within in
      let on = eq-eqb (bit (gray i) x) 1 (ap (λ (p : ℕ). bit p x) e ∙ low.set) in
      let (j, found) = found_at (true-any (differing x) 0 (slots m) i (omega arith) (omega arith) on) in
      subst (λ (k : ℕ). First (differing x) 0 (slots m) k) (ap number (sym found)) (seek-first (differing x) 0 (slots m) j found)

  pub place-below : place m x < slots m
  place-below = omega (arith, place-first.within)

  pub crossing-below : crossing m x < slots m
  unfolding crossing
  crossing-below = gray-lt m (place m x) place-below

  place-gray : gray (place m x) ≡ crossing m x
  unfolding crossing
  place-gray = refl

  pub place-before : (k : ℕ) → k < place m x → bit (gray k) x ≡ 0
  unfolding differing
  place-before k l = bit_off (gray k) x (place-first.before k (omega arith) l)

  pub crossing-bit : bit (crossing m x) x ≡ 1
  unfolding crossing differing
  crossing-bit = eqb-true (bit (gray (place m x)) x) 1 place-first.holds

  -- with the first of them corrected, the others come later in the order
  later : (k : ℕ) → bit (gray k) (flip x (crossing m x)) ≡ 1 → place m x < k
  later k on = go (same_or (gray k) (crossing m x)) (lt-or-le (place m x) k)
    where
      go : (gray k ≡ crossing m x) ⊎ (gray k ≢ crossing m x) → (place m x < k) ⊎ (k ≤ place m x) → place m x < k
      go s (inl l) = l
      go (inl e) (inr g) =
          absurd (clash (ap (λ (p : ℕ). bit p (flip x (crossing m x))) e ∙ flip-same x (crossing m x) ∙ ap (λ (d : ℕ). 1 - d) crossing-bit) on)
      go (inr d) (inr g) =
          let before : place m x ≢ k = λ e. d (ap gray (sym e) ∙ place-gray) in
          absurd (clash (place-before k (omega arith)) (sym (flip-other x (crossing m x) (gray k) d) ∙ on))

  pub crossing-flip-lt : flip x (crossing m x) < blocks m
  crossing-flip-lt = flip-lt (2 ^ m) x (crossing m x) h crossing-below

-- the walk from this crossing to the next, while one is left, is no longer than the order goes on from the one to the other
module _ (m x : ℕ) (ne : x ≢ 0) (h : x < blocks m) (left : flip x (crossing m x) ≢ 0) where
  abbrev y : ℕ
  y = flip x (crossing m x)

  pub place_later : place m x < place m (flip x (crossing m x))
  unfolding crossing
  place_later = later m x ne h (place m y) (crossing-bit m y left (crossing-flip-lt m x ne h))

  pub crossing-near : ones (bit_xor (crossing m x) (crossing m (flip x (crossing m x)))) ≤ place m (flip x (crossing m x)) - place m x
  unfolding crossing
  crossing-near = gray-near (place m x) (place m y) (omega (arith, place_later))
