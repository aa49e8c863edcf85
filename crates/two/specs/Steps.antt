-- The parts of the plain route's next hop, case by case, and the rank that each hop brings down (`rank`, `rest`). That a hop is a link and brings it down, and
-- that every walk arrives, stands in proofs/Rank.antt. Assumes nothing.
use Rattle.std.specs.Prelude.{ℕ, zero, suc, ◌+◌, ◌-◌, ◌*◌, ◌^◌, ◌≤◌, ◌<◌, ◌≡◌, Bool, true, false, ◌≢◌, eqb}
use Rattle.std.proofs.Math.Path.{refl}
use Rattle.std.proofs.Common.{ap, ◌∙◌, pow-suc, suc-mul, add-one, arith, eq-eqb, ne_eqb}
use Rattle.std.proofs.Math.Decide.{ℕ_discrete}
use Rattle.std.specs.Int.Bits.{bit_xor}
use Rattle.std.proofs.lemmas.Nat.{ones-le}
use Rattle.std.specs.Int.Count.{ones, count_trailing_zeros}
use Rattle.bits.specs.Bit.{bit, flip}
use Rattle.bits.specs.Laws.{flip-xor, ones_clear}
use Rattle.scan.specs.Scan.{pick}
use Rattle.two_parts.specs.Two.{blocks, longest}
use Rattle.two.specs.Next.{place, crossing, toward, heading, crossed}

-- ---- the next hop's parts, case by case

pub pick_same : (a b x y : ℕ) → a ≡ b → pick (eqb a b) x y ≡ x
pick_same a b x y e = ap (λ (z : Bool). pick z x y) (eq-eqb a b e)

pub pick_other : (a b x y : ℕ) → a ≢ b → pick (eqb a b) x y ≡ y
pick_other a b x y ne = ap (λ (z : Bool). pick z x y) (ne_eqb a b ne)

pub heading-same : (m b c q : ℕ) → b ≡ c → heading m b c q ≡ q
unfolding heading
heading-same m b c q e = pick_same b c q (crossing m (bit_xor b c)) e

pub heading-other : (m b c q : ℕ) → b ≢ c → heading m b c q ≡ crossing m (bit_xor b c)
unfolding heading
heading-other m b c q ne = pick_other b c q (crossing m (bit_xor b c)) ne

pub crossed-there : (b p c h : ℕ) → b ≡ c → crossed b p c h ≡ b
unfolding crossed
crossed-there b p c h e = pick_same b c b (pick (eqb p h) (flip b p) b) e

pub crossed_over : (b p c h : ℕ) → b ≢ c → p ≡ h → crossed b p c h ≡ flip b p
unfolding crossed
crossed_over b p c h ne e = pick_other b c b (pick (eqb p h) (flip b p) b) ne ∙ pick_same p h (flip b p) b e

pub crossed-not : (b p c h : ℕ) → p ≢ h → crossed b p c h ≡ b
unfolding crossed
crossed-not b p c h ne = ap (pick (eqb b c) b) (pick_other p h (flip b p) b ne) ∙ either (eqb b c)
  where
    either : (x : Bool) → pick x b b ≡ b
    either true = refl
    either false = refl

pub toward-there : (m p q : ℕ) → p ≡ q → toward m p q ≡ p
unfolding toward
toward-there m p q e = pick_same p q p (flip p (count_trailing_zeros m (bit_xor p q))) e

pub toward-moves : (m p q : ℕ) → p ≢ q → toward m p q ≡ flip p (count_trailing_zeros m (bit_xor p q))
unfolding toward
toward-moves m p q ne = pick_other p q p (flip p (count_trailing_zeros m (bit_xor p q))) ne

-- how far it is, at most: to the heading and, while blocks differ in x, a hop for each differing bit, one for each later place of the order,
-- and the last walk to the target's slot
unfoldable pub rest : (m x : ℕ) → ℕ
rest m x = pick (eqb x 0) 0 (ones x + (2 ^ m - suc (place m x)) + m)

unfoldable pub rank : (m b p c q : ℕ) → ℕ
rank m b p c q = ones (bit_xor p (heading m b c q)) + rest m (bit_xor b c)

pub rest-none : (m x : ℕ) → x ≡ 0 → rest m x ≡ 0
unfolding rest
rest-none m x e = pick_same x 0 0 (ones x + (2 ^ m - suc (place m x)) + m) e

pub rest_some : (m x : ℕ) → x ≢ 0 → rest m x ≡ ones x + (2 ^ m - suc (place m x)) + m
unfolding rest
rest_some m x ne = pick_other x 0 0 (ones x + (2 ^ m - suc (place m x)) + m) ne

pub pow-next : (m : ℕ) → 2 ^ (m + 1) ≡ 2 ^ m + 2 ^ m
pow-next m = ap (λ (j : ℕ). 2 ^ j) (add-one m) ∙ pow-suc 2 m ∙ omega arith

pub rest_bound : (m x : ℕ) → x < blocks m → rest m x ≤ 2 ^ m + (2 ^ m - 1) + m
rest_bound m x h = go (ℕ_discrete x 0)
  where
    go : Dec (x ≡ 0) → rest m x ≤ 2 ^ m + (2 ^ m - 1) + m
    go (yes e) = omega (arith, rest-none m x e)
    go (no ne) = omega (arith, rest_some m x ne, ones-le (2 ^ m) x h)

-- along a slot bit
pub rank-slot : (m b p c q d : ℕ) → bit d (bit_xor p (heading m b c q)) ≡ 1 → rank m b (flip p d) c q < rank m b p c q
unfolding rank
rank-slot m b p c q d o =
    omega (arith, ap ones (flip-xor p d (heading m b c q)), ones_clear d (bit_xor p (heading m b c q)) o)

-- ---- of relays by number

-- no path's limit is less
pub most-longest : (m : ℕ) → 2 ^ (m + 1) + 2 * m - 1 ≤ longest m
most-longest zero = omega arith
most-longest (suc n) = omega (arith, pow-next (suc n), suc-mul n (2 ^ suc n))
