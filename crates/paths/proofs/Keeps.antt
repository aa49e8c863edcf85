-- Main theorems: there is no finding exactly when the rules are kept (`clean_keeps`, `keeps_clean`). Assumes nothing.
use Prim.Native.Nat.{ℕ, zero, suc, ◌+◌, ◌-◌, ◌*◌, ◌≤◌, ◌<◌}
use Rattle.std.specs.Prelude.{◌≡◌, refl, Bool, ◌⊎◌, ◌≢◌, List, length, get_or}
use Rattle.std.proofs.Math.Path.{ap}
use Rattle.std.proofs.Common.{ap₂, ◌∙◌, inl, inr}
use Rattle.std.proofs.Math.Bool.{true, false, not}
use native.Mathlib.Omega.{arith}
use borrow.Author.Tests.{leb-false, lt-leb, eqb-true, eq-eqb, not-false}
use Rattle.scan.specs.Scan.{pick, any, among}
use Rattle.scan.specs.Laws.{true-or, true-false, not-true, seek-none, none-seek, false-any, true-any}
use Rattle.paths.specs.Rules.{Rules, span}
use Rattle.paths.specs.Fan.{PathBy, filler, relay, hops}
use Rattle.paths.specs.Finding.{clean, or, unlinked, on, twinned, seen, unfilled, unlinked_at, seen_at, unfilled_at, finding_by}
use Rattle.paths.specs.Places.{relay-among, none-among}
use Rattle.paths.specs.Clear.{Clear, clean_clear, clear_clean}
use Rattle.paths.specs.Keeps.{Keeps}

-- ---- tests

or-false : (a b : Bool) → or a b ≡ false → (a ≡ false) × (b ≡ false)
or-false true b e = absurd (true-false refl e)
or-false false b e = (refl, e)

false-or : {a b : Bool} → a ≡ false → b ≡ false → or a b ≡ false
false-or e f = ap₂ or e f

or_left : {a : Bool} (b : Bool) → a ≡ true → or a b ≡ true
or_left b e = ap (λ (a : Bool). or a b) e

or_right : (a : Bool) {b : Bool} → b ≡ true → or a b ≡ true
or_right true e = refl
or_right false e = e

-- ---- 24

module _ (r : Rules) (places counts : List ℕ) where
  -- whether an earlier path stands against place p of path i
  abbrev earlier : (i p : ℕ) → Bool → Bool
  earlier i p b = pick b (twinned r counts i p) (any (on (span r) places counts (relay (span r) places i p)) 0 i)

  seen_here : (i p q : ℕ) → p < q → relay (span r) places i p ≡ relay (span r) places i q → seen r places counts i q ≡ true
  unfolding seen
  seen_here i p q l e = or_left _ (relay-among (span r) places i q p (relay (span r) places i q) l e)

  seen-earlier : (i j p q : ℕ) → i < j → p ≤ hops counts i → r.excepted (hops counts j) q ≡ false → relay (span r) places i p ≡ relay (span r) places j q
      → seen r places counts j q ≡ true
  unfolding seen on
  seen-earlier i j p q l h x e =
      or_right (among places (j * span r) q (relay (span r) places j q))
      (ap (earlier j q) x
      ∙ true-any (on (span r) places counts (relay (span r) places j q)) 0 j i (omega arith) (omega arith)
      (relay-among (span r) places i (hops counts i + 1) p _ (omega arith) e))

  seen-twin : (i j q : ℕ) → i < j → r.excepted (hops counts j) q ≡ true → r.twin (hops counts j) q (hops counts i) ≡ true → seen r places counts j q ≡ true
  unfolding seen twinned
  seen-twin i j q l x t =
      or_right (among places (j * span r) q (relay (span r) places j q))
      (ap (earlier j q) x ∙ true-any (λ i. r.twin (hops counts j) q (hops counts i)) 0 j i (omega arith) (omega arith) t)

  unseen : (i p : ℕ) → ((q : ℕ) → q < p → relay (span r) places i q ≢ relay (span r) places i p)
      → (r.excepted (hops counts i) p ≡ false → (j q : ℕ) → j < i → q ≤ hops counts j → relay (span r) places j q ≢ relay (span r) places i p)
      → (r.excepted (hops counts i) p ≡ true → (j : ℕ) → j < i → r.twin (hops counts i) p (hops counts j) ≡ false) → seen r places counts i p ≡ false
  unfolding seen twinned on
  unseen i p here before single =
      false-or (none-among (span r) places i p (relay (span r) places i p) here) (go (true-or (r.excepted (hops counts i) p)))
    where
      go : (r.excepted (hops counts i) p ≡ true) ⊎ (r.excepted (hops counts i) p ≡ false) → earlier i p (r.excepted (hops counts i) p) ≡ false
      go (inl x) = ap (earlier i p) x ∙ false-any (λ j. r.twin (hops counts i) p (hops counts j)) 0 i (λ j l g. single x j (omega arith))
      go (inr x) =
          ap (earlier i p) x
          ∙ false-any (on (span r) places counts (relay (span r) places i p)) 0 i
          (λ j l g. none-among (span r) places j (hops counts j + 1) _ (λ q h. before x j q (omega arith) (omega arith)))

-- ---- from no finding to rules that are kept

module _ (r : Rules) (s : ℕ) (targets places counts : List ℕ) where
  abbrev at_place : (i p : ℕ) → ℕ
  at_place i p = relay (span r) places i p

  module _ (c : (j : ℕ) → j < length targets → Clear r s (get_or targets j 0) places counts j) where
    not_seen : (i p : ℕ) → i < length targets → p ≤ hops counts i → seen r places counts i p ≡ false
    unfolding seen_at
    not_seen i p l h = seek-none _ 0 (hops counts i + 1) (c i l).fresh p (omega arith) (omega arith)

    path-of : (i : ℕ) → i < length targets → PathBy r s (get_or targets i 0) places counts i
    unfolding unlinked unfilled unlinked_at unfilled_at
    path-of i l = record {
      short = (c i l).short;
      starts = (c i l).starts;
      linked = λ p h.
          let a = or-false _ _ (seek-none _ 1 (hops counts i) (c i l).links (p + 1) (omega arith) (omega arith)) in (
            leb-false r.mesh.relays (at_place i (p + 1)) a.0,
            ap (λ (q : ℕ). r.mesh.linked (at_place i q) (at_place i (p + 1))) (omega arith) ∙ not-false _ a.1,
          );
      ends = (c i l).ends;
      filled = λ p h g. eqb-true _ filler (not-false _ (seek-none _ (hops counts i + 1) (r.limit - hops counts i) (c i l).filled p (omega arith) (omega arith)));
    }

    clear_keeps : Keeps r s targets places counts
    clear_keeps = record {
      path = path-of;
      once = λ i p q l u h e. true-false (seen_here r places counts i p q u e) (not_seen i q l h);
      apart = λ i j p q u l h g x e. true-false (seen-earlier r places counts i j p q u h x e) (not_seen j q l g);
      single = λ i j q u l g x. not-true (λ t. true-false (seen-twin r places counts i j q u x t) (not_seen j q l g));
    }

  pub clean_keeps : finding_by r s targets places counts ≡ clean → Keeps r s targets places counts
  clean_keeps e = clear_keeps (clean_clear r s targets places counts e)

  -- ---- from rules that are kept to no finding

  module _ (k : Keeps r s targets places counts) where
    kept-unseen : (i p : ℕ) → i < length targets → p ≤ hops counts i → seen r places counts i p ≡ false
    kept-unseen i p l h =
        unseen r places counts i p (λ q g. k.once i q p l g h) (λ x j q u g. k.apart j i q p u l g h x) (λ x j u. k.single j i p u l h x)

    kept-linked : (i p : ℕ) → i < length targets → 1 ≤ p → p < 1 + hops counts i → unlinked r places i p ≡ false
    unfolding unlinked
    kept-linked i zero l a b = absurd (omega arith)
    kept-linked i (suc p) l a b =
        let f = (k.path i l).linked p (omega arith) in
        let next : suc p ≡ p + 1 = omega arith in
        let here : suc p - 1 ≡ p = omega arith in
        let link : r.mesh.linked (at_place i (suc p - 1)) (at_place i (suc p)) ≡ true = rw (here, next) f.1 in
        false-or (lt-leb r.mesh.relays (at_place i (suc p)) (rw next f.0)) (ap not link)

    kept_clear : (i : ℕ) → i < length targets → Clear r s (get_or targets i 0) places counts i
    unfolding unfilled unlinked_at seen_at unfilled_at
    kept_clear i l =
        let p = k.path i l in
        record {
          short = p.short;
          starts = p.starts;
          links = none-seek _ 1 (hops counts i) (λ j a b. kept-linked i j l a b);
          ends = p.ends;
          fresh = none-seek _ 0 (hops counts i + 1) (λ j a b. kept-unseen i j l (omega arith));
          filled = none-seek _ (hops counts i + 1) (r.limit - hops counts i) (λ j a b. ap not (eq-eqb _ filler (p.filled j (omega arith) (omega arith))));
        }

    pub keeps_clean : finding_by r s targets places counts ≡ clean
    keeps_clean = clear_clean r s targets places counts kept_clear
