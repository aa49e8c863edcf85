-- Bits brought into the Gray order by four swaps under masks (`ordered`): of the first 32, bit i of what comes out is the bit of x at place i of the
-- order (`ordered-bit`). Assumes nothing.
use Rattle.std.specs.Prelude.{ℕ, ◌+◌, ◌*◌, ◌^◌, ◌<◌, ◌≡◌, refl, Bool, true, false, ◌&&◌, not, eqb, leb}
use Rattle.std.proofs.Math.Path.{ap}
use Rattle.std.proofs.Common.{◌∙◌, ⊎_elim, arith, eqb-true, leb-true}
use Rattle.bits.specs.Bit.{bit}
use Rattle.bits.specs.Gray.{gray}
use Rattle.bits.specs.Swaps.{swapped, partner, swapped-bit}
use Rattle.scan.specs.Scan.{seek, any}
use Rattle.scan.specs.Laws.{both_true, any_false, true-or, true-false}

-- of the places below 32, those in which bit 1 is set and bit 0 is not, or 2 and not 1, 3 and not 2, 4 and not 3:
-- 0x44444444, 0x30303030, 0x0f000f00, 0x00ff0000
abbrev pub mask_1 : ℕ
mask_1 = 1145324612

abbrev pub mask_2 : ℕ
mask_2 = 808464432

abbrev pub mask_4 : ℕ
mask_4 = 251662080

abbrev pub mask_8 : ℕ
mask_8 = 16711680

unfoldable pub ordered : ℕ → ℕ
ordered x = swapped mask_1 1 (swapped mask_2 2 (swapped mask_4 4 (swapped mask_8 8 x)))

-- no bit goes two ways
alone : (mask k i : ℕ) → Bool
alone mask k i = leb (bit i mask + bit i (mask * 2 ^ k)) 1

-- where bit i comes from, swap by swap, from the last to the first
from_1 : ℕ → ℕ
from_1 i = partner mask_1 1 i

from_2 : ℕ → ℕ
from_2 i = partner mask_2 2 (from_1 i)

from_4 : ℕ → ℕ
from_4 i = partner mask_4 4 (from_2 i)

from_8 : ℕ → ℕ
from_8 i = partner mask_8 8 (from_4 i)

-- each of the 32 comes from its place in the order
told : ℕ → Bool
told i = alone mask_1 1 i && (alone mask_2 2 (from_1 i) && (alone mask_4 4 (from_2 i) && (alone mask_8 8 (from_4 i) && eqb (from_8 i) (gray i))))

all_told : any (λ i. not (told i)) 0 32 ≡ false
unfolding any seek told alone from_1 from_2 from_4 from_8 partner gray bit
all_told = refl

module _ (x i : ℕ) (h : i < 32) where
  here : told i ≡ true
  here = ⊎_elim (λ t. t) (λ f. absurd (true-false (ap not f) (any_false (λ j. not (told j)) 0 32 all_told i (omega arith) (omega arith)))) (true-or (told i))

  pub ordered-bit : bit i (ordered x) ≡ bit (gray i) x
  unfolding ordered told alone from_1 from_2 from_4 from_8
  ordered-bit =
      let (a, r) = both_true (alone mask_1 1 i) _ here in
      let (b, r₂) = both_true (alone mask_2 2 (from_1 i)) _ r in
      let (c, r₃) = both_true (alone mask_4 4 (from_2 i)) _ r₂ in
      let (d, e) = both_true (alone mask_8 8 (from_4 i)) _ r₃ in
      swapped-bit mask_1 1 (swapped mask_2 2 (swapped mask_4 4 (swapped mask_8 8 x))) i (leb-true _ 1 a)
      ∙ swapped-bit mask_2 2 (swapped mask_4 4 (swapped mask_8 8 x)) (from_1 i) (leb-true _ 1 b)
      ∙ swapped-bit mask_4 4 (swapped mask_8 8 x) (from_2 i) (leb-true _ 1 c)
      ∙ swapped-bit mask_8 8 x (from_4 i) (leb-true _ 1 d)
      ∙ ap (λ (j : ℕ). bit j x) (eqb-true (from_8 i) (gray i) e)
