-- Going through the paths of a sheet that was looked through, one after another: where path i begins (`offset`), and that the next one has its bytes (`Along`).
-- Assumes nothing.
use Rattle.std.specs.Prelude.{ℕ, zero, suc, ◌+◌, ◌-◌, ◌≤◌, ◌<◌, ◌≡◌, refl, List}
use Rattle.std.proofs.Common.{sym, ap, ◌∙◌, add-one, arith}
use Rattle.std.proofs.Math.Option.{none}
use Rattle.sheet.specs.Format.{HEAD, after}
use Rattle.sheet_take.specs.Looking.{Fine, looked-first}
use Rattle.sheet_take.specs.Says.{looked}

-- where path i begins
unfoldable pub offset : (v : ℕ) (l : List ℕ) (at i : ℕ) → ℕ
offset v l at zero = at
offset v l at (suc i) = offset v l (after v l at) i

offset-more : (v : ℕ) (l : List ℕ) (at i : ℕ) → offset v l at (suc i) ≡ after v l (offset v l at i)
unfolding offset
offset-more v l at zero = refl
offset-more v l at (suc i) = offset-more v l (after v l at) i

-- path i of k begins at the place `at`, and nothing is wrong from there on
pub record Along (v longest : ℕ) (l : List ℕ) (k at i : ℕ) : Type 0 where
  pub within : i ≤ k
  pub sound : looked v longest l at i (k - i) ≡ none
  pub at_is : at ≡ offset v l HEAD i

pub along_starts : {v longest : ℕ} {l : List ℕ} {k : ℕ} → looked v longest l HEAD 0 k ≡ none → Along v longest l k HEAD 0
unfolding offset
along_starts {v} {longest} {l} {k} e = record {
  within = omega arith;
  sound = (let all : k - 0 ≡ k = omega arith in ap (looked v longest l HEAD 0) all ∙ e);
  at_is = refl;
}

module _ {v longest : ℕ} {l : List ℕ} {k at i : ℕ} (q : Along v longest l k at i) (h : i < k) where
  both : Fine v longest l at × (looked v longest l (after v l at) (suc i) (k - (i + 1)) ≡ none)
  both = let one : k - i ≡ suc (k - (i + 1)) = omega arith in looked-first v longest l at i (k - (i + 1)) (ap (looked v longest l at i) (sym one) ∙ q.sound)

  pub along-fine : Fine v longest l at
  along-fine = both.0

  pub along-more : {to : ℕ} → to ≡ after v l at → Along v longest l k to (i + 1)
  along-more {to} e = record {
    within = omega arith;
    sound = ap (λ (y : ℕ). looked v longest l y (i + 1) (k - (i + 1))) e ∙ ap (λ (y : ℕ). looked v longest l (after v l at) y (k - (i + 1))) (add-one i) ∙ both.1;
    at_is = e ∙ ap (after v l) q.at_is ∙ sym (offset-more v l HEAD i) ∙ ap (offset v l HEAD) (sym (add-one i));
  }
