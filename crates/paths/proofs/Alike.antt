-- The judge looks at no more than the paths asked for: slices that are the same so far have the same first finding (`finding_alike`), over any
-- rules. Assumes nothing.
use Prim.Native.Nat.{ℕ, zero, suc, ◌+◌, ◌-◌, ◌*◌, ◌≤◌, ◌<◌}
use Rattle.std.specs.Prelude.{◌≡◌, Bool, List, leb, length, get_or}
use Rattle.std.proofs.Math.Path.{refl, ap, ap₂}
use Rattle.std.proofs.Common.{◌∙◌, arith}
use Rattle.std.proofs.Math.Bool.{not}
use Rattle.std.proofs.Math.Decide.{ℕ_discrete, dec_le}
use Rattle.std.proofs.Math.Dec.{eqb}
use borrow.Author.Tests.{lt-ltb}
use Rattle.scan.specs.Scan.{found, seek, any, among}
use Rattle.scan.specs.Laws.{seek-same}
use Rattle.paths.specs.Rules.{Rules, span}
use Rattle.paths.specs.Fan.{filler, relay, hops}
use Rattle.paths.specs.Finding.{Finding, or, unlinked, on, twinned, seen, unfilled, unlinked_at, seen_at, unfilled_at, finding_of, finding_from, finding_by}
use Rattle.paths.specs.Places.{row_below}
use Rattle.paths.specs.Alike.{Same}

any_same : (p q : ℕ → Bool) (i n : ℕ) → ((j : ℕ) → i ≤ j → j < i + n → p j ≡ q j) → any p i n ≡ any q i n
unfolding any
any_same p q i n h = ap found (seek-same p q i n h)

module _ (r : Rules) (s : ℕ) (targets places counts other others : List ℕ) (same : Same (length targets * span r) places other)
    (same-counts : Same (length targets) counts others) where
  abbrev k : ℕ
  k = length targets

  abbrev w : ℕ
  w = span r

  relay-same : (i p : ℕ) → i < k → p ≤ r.limit → relay w places i p ≡ relay w other i p
  unfolding relay
  relay-same i p l h = same (i * w + p) (omega (arith, row_below w l))

  hops-same : (i : ℕ) → i < k → hops counts i ≡ hops others i
  unfolding hops
  hops-same i l = same-counts i l

  among_same : (i n x : ℕ) → i < k → n ≤ w → among places (i * w) n x ≡ among other (i * w) n x
  unfolding among
  among_same i n x l h = any_same _ _ (i * w) n (λ j a b. ap (λ (y : ℕ). eqb y x) (same j (omega (arith, row_below w l))))

  on_same : (j x : ℕ) → j < k → hops counts j ≤ r.limit → on w places counts x j ≡ on w other others x j
  unfolding on
  on_same j x l h = among_same j (hops counts j + 1) x l (omega arith) ∙ ap (λ (n : ℕ). among other (j * w) (n + 1) x) (hops-same j l)

  module _ (i : ℕ) (below : i < k) (short : hops counts i ≤ r.limit) (earlier : (j : ℕ) → j < i → hops counts j ≤ r.limit) where
    unlinked-same : (p : ℕ) → p ≤ r.limit → unlinked r places i p ≡ unlinked r other i p
    unfolding unlinked
    unlinked-same p h =
        ap₂ (λ (u v : ℕ). or (leb r.mesh.relays v) (not (r.mesh.linked u v))) (relay-same i (p - 1) below (omega arith)) (relay-same i p below h)

    twinned-same : (p : ℕ) → twinned r counts i p ≡ twinned r others i p
    unfolding twinned
    twinned-same p = any_same _ _ 0 i (λ j a b. ap₂ (λ (h g : ℕ). r.twin h p g) (hops-same i below) (hops-same j (omega arith)))

    earlier-same : (x : ℕ) → any (on w places counts x) 0 i ≡ any (on w other others x) 0 i
    earlier-same x = any_same _ _ 0 i (λ j a b. on_same j x (omega arith) (earlier j (omega arith)))

    seen_same : (p : ℕ) → p ≤ hops counts i → seen r places counts i p ≡ seen r other others i p
    unfolding seen
    seen_same p h =
        let x = relay w places i p in
        cc (relay-same i p below (omega arith), hops-same i below, among_same i p x below (omega arith), twinned-same p, earlier-same x)

    unlinked-at : unlinked_at r places counts i ≡ unlinked_at r other others i
    unfolding unlinked_at
    unlinked-at =
        seek-same _ _ 1 (hops counts i) (λ p a b. unlinked-same p (omega arith)) ∙ ap (seek (unlinked r other i) 1) (hops-same i below)

    seen-at : seen_at r places counts i ≡ seen_at r other others i
    unfolding seen_at
    seen-at =
        seek-same _ _ 0 (hops counts i + 1) (λ p a b. seen_same p (omega arith)) ∙ ap (λ (n : ℕ). seek (seen r other others i) 0 (n + 1)) (hops-same i below)

    unfilled-at : unfilled_at r places counts i ≡ unfilled_at r other others i
    unfolding unfilled_at unfilled
    unfilled-at =
        seek-same _ _ (hops counts i + 1) (r.limit - hops counts i) (λ p a b. ap (λ (x : ℕ). not (eqb x filler)) (relay-same i p below (omega arith)))
        ∙ ap (λ (n : ℕ). seek (λ p. not (eqb (relay w other i p) filler)) (n + 1) (r.limit - n)) (hops-same i below)

    end_same : relay w places i (hops counts i) ≡ relay w other i (hops others i)
    end_same = relay-same i (hops counts i) below short ∙ ap (relay w other i) (hops-same i below)

    path-same : (t : ℕ) {rest rest₁ : Finding} → rest ≡ rest₁ → finding_of r s t places counts i rest ≡ finding_of r s t other others i rest₁
    unfolding finding_of
    path-same t e = cc (hops-same i below, relay-same i 0 below (omega arith), unlinked-at, end_same, seen-at, unfilled-at)

  -- a path that is too long is told before anything of it is read
  long_same : (i t : ℕ) (rest rest₁ : Finding) → i < k → r.limit < hops counts i → finding_of r s t places counts i rest ≡ finding_of r s t other others i rest₁
  unfolding finding_of
  long_same i t rest rest₁ l h = simp (lt-ltb r.limit (hops counts i) h, lt-ltb r.limit (hops others i) (omega (arith, hops-same i l)))

  alike_from : (i n : ℕ) → i + n ≤ k → ((j : ℕ) → j < i → hops counts j ≤ r.limit) → finding_from r s targets places counts i n ≡ finding_from r s targets other others i n
  unfolding finding_from
  alike_from i zero l earlier = refl
  alike_from i (suc n) l earlier = go (dec_le (hops counts i) r.limit) (λ h. alike_from (suc i) n (omega arith) h)
    where
      go : Dec (hops counts i ≤ r.limit)
          → (((j : ℕ) → j < suc i → hops counts j ≤ r.limit) → finding_from r s targets places counts (suc i) n ≡ finding_from r s targets other others (suc i) n)
          → finding_of r s (get_or targets i 0) places counts i (finding_from r s targets places counts (suc i) n)
          ≡ finding_of r s (get_or targets i 0) other others i (finding_from r s targets other others (suc i) n)
      go (yes h) more = path-same i (omega arith) h earlier (get_or targets i 0) (more (λ j u. upto j u (ℕ_discrete j i)))
        where
          upto : (j : ℕ) → j < suc i → Dec (j ≡ i) → hops counts j ≤ r.limit
          upto j u (yes e) = rw e h
          upto j u (no ne) = earlier j (omega arith)
      go (no h) more = long_same i (get_or targets i 0) _ _ (omega arith) (omega arith)

  pub finding_alike : finding_by r s targets places counts ≡ finding_by r s targets other others
  unfolding finding_by
  finding_alike = alike_from 0 k (omega arith) (λ j h. absurd (omega arith))
