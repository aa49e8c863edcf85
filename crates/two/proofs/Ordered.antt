-- The lowest of the bits brought into the Gray order is at the crossing's place (`ordered_lowest`). Assumes nothing.
use Rattle.std.specs.Prelude.{ℕ, ◌≤◌, ◌<◌, ◌≡◌, ◌⊎◌, ◌≢◌}
use Rattle.std.proofs.Math.Path.{ap}
use Rattle.std.proofs.Common.{◌∙◌, inl, inr, arith}
use Rattle.bits.specs.Bit.{bit, Lowest}
use Rattle.bits.specs.Laws.{bit-none, clash, lt-or}
use Rattle.two_parts.specs.Two.{blocks}
use Rattle.two_parts.specs.Parts.{slots-few}
use Rattle.two.specs.Next.{place, crossing}
use Rattle.two.proofs.Crossing.{place-below, place-before, crossing-bit}
use Rattle.two.specs.Ordered.{ordered, ordered-bit}

module _ (m x : ℕ) (few : m ≤ 5) (ne : x ≢ 0) (h : x < blocks m) where
  at_place : bit (place m x) (ordered x) ≡ 1
  unfolding crossing
  at_place = ordered-bit x (place m x) (omega (arith, place-below m x ne h, slots-few m few)) ∙ crossing-bit m x ne h

  pub ordered-some : ordered x ≢ 0
  ordered-some z = clash (ap (bit (place m x)) z ∙ bit-none (place m x)) at_place

  pub ordered_lowest : (w i : ℕ) → Lowest w (ordered x) i → i ≡ place m x
  ordered_lowest w i low = go (lt-or i (place m x))
    where
      go : (i < place m x) ⊎ ((i ≡ place m x) ⊎ (place m x < i)) → i ≡ place m x
      go (inl l) =
          absurd (clash (ordered-bit x i (omega (arith, place-below m x ne h, slots-few m few)) ∙ place-before m x ne h i l) low.set)
      go (inr (inl e)) = e
      go (inr (inr g)) = absurd (clash (low.below (place m x) g) at_place)
