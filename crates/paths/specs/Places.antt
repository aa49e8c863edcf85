-- Where the relays of a path stand in the lent places, w of them to a path: at one of its places (`relay-among`, `on-at`) or at none
-- (`none-among`); an earlier path's places end where a later one's begin (`row_below`). Assumes nothing.
use Rattle.std.specs.Prelude.{ℕ, ◌+◌, ◌-◌, ◌*◌, ◌≤◌, ◌<◌, ◌≡◌, true, false, ◌≢◌, List}
use Rattle.std.proofs.Math.Path.{ap}
use Rattle.std.proofs.Common.{◌∙◌, mul-le-mul_right, suc-mul, arith}
use Rattle.std.proofs.Math.ListN.{get_or}
use Rattle.scan.specs.Scan.{among}
use Rattle.scan.specs.Laws.{true-among, among-true, false-among}
use Rattle.paths.specs.Fan.{relay, hops}
use Rattle.paths.specs.Finding.{on}

pub row_below : (w : ℕ) {j i : ℕ} → j < i → j * w + w ≤ i * w
row_below w {j} {i} h = omega (arith, mul-le-mul_right w h, suc-mul j w)

module _ (w : ℕ) (places : List ℕ) where
  -- x stands on the first n places of path i
  pub relay-among : (i n p x : ℕ) → p < n → relay w places i p ≡ x → among places (i * w) n x ≡ true
  unfolding relay
  relay-among i n p x l e = true-among places (i * w) n x (i * w + p) (omega arith) (omega arith) e

  pub none-among : (i n x : ℕ) → ((p : ℕ) → p < n → relay w places i p ≢ x) → among places (i * w) n x ≡ false
  unfolding relay
  none-among i n x h =
      false-among places (i * w) n x (λ j l g e. h (j - i * w) (omega arith) (ap (λ (y : ℕ). get_or places y 0) (omega arith) ∙ e))

  -- where x stands on path i
  pub on-at : (counts : List ℕ) (x i : ℕ) → on w places counts x i ≡ true → (p : ℕ) × (p ≤ hops counts i) × (relay w places i p ≡ x)
  unfolding on relay
  on-at counts x i e =
      let (j, a, b, is) = among-true places (i * w) (hops counts i + 1) x e in
      (j - i * w, omega (arith, a, b), ap (λ (y : ℕ). get_or places y 0) (omega (arith, a)) ∙ is)
