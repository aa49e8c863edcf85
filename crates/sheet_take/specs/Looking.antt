-- Why looking through the paths of a sheet tells what is wrong first: one path (`path-cut` to `path-fine`), and the loop over them (`Looking`);
-- and that paths with nothing wrong are within the longest (`looked_within`).
-- Assumes nothing.
use Rattle.std.specs.Prelude.{ℕ, zero, suc, ◌+◌, ◌-◌, ◌≤◌, ◌<◌, ◌≡◌, refl, Bool, true, false, not, ◌≢◌, List, eqb, ltb, length}
use Rattle.std.proofs.Common.{sym, ◌∙◌, add-one, lt-ltb, le-ltb, eq-eqb, ne_eqb, ltb-false}
use Rattle.std.proofs.Math.Path.{ap}
use Rattle.std.proofs.Math.Option.{Option, none, some}
use native.Mathlib.Omega.{arith}
use Rattle.std.proofs.lemmas.Bool.{eqb-false}
use Rattle.scan.specs.Scan.{pick}
use Rattle.sheet.specs.Flaws.{flawed-none, before-none}
use Rattle.sheet.specs.Format.{HEAD, head, hops_at, after, paths_at}
use Rattle.sheet.specs.Lengths.{relays-count}
use Rattle.sheet.specs.Lent.{Within}
use Rattle.sheet.specs.Says.{flawed, before}
use Rattle.sheet.specs.declared.Flaw.{Flaw}
use Rattle.sheet.specs.declared.Flaw.TheVariants as flaw
use Rattle.sheet_take.specs.Says.{bad_hops, looked, wrong_at, Strode, strode, tell_stride}

module _ (v longest : ℕ) (l : List ℕ) (at i : ℕ) where
  wrong_is : {a b c : Bool} → ltb (length l) (at + 2) ≡ a → bad_hops longest (hops_at l at) ≡ b → ltb (length l) (after v l at) ≡ c
      → flawed a flaw.Cut (flawed b (flaw.Hops i) (flawed c flaw.Cut none)) ≡ wrong_at v longest l at i
  wrong_is {a} {b} {c} p q r =
      ap (λ (x : Bool). flawed x flaw.Cut (flawed b (flaw.Hops i) (flawed c flaw.Cut none))) (sym p)
      ∙ ap (λ (x : Bool). flawed (ltb (length l) (at + 2)) flaw.Cut (flawed x (flaw.Hops i) (flawed c flaw.Cut none))) (sym q)
      ∙ ap (λ (x : Bool). flawed (ltb (length l) (at + 2)) flaw.Cut (flawed (bad_hops longest (hops_at l at)) (flaw.Hops i) (flawed x flaw.Cut none))) (sym r)

  pub path-cut : length l < at + 2 → some flaw.Cut ≡ wrong_at v longest l at i
  path-cut h = wrong_is (lt-ltb (length l) (at + 2) h) refl refl

  module _ (room : at + 2 ≤ length l) where
    uncut : ltb (length l) (at + 2) ≡ false
    uncut = le-ltb (length l) (at + 2) room

    pub path_bare : hops_at l at ≡ 0 → some (flaw.Hops i) ≡ wrong_at v longest l at i
    path_bare e = wrong_is uncut (ap (λ (b : Bool). pick b true (ltb longest (hops_at l at))) (eq-eqb (hops_at l at) 0 e)) refl

    far : hops_at l at ≢ 0 → (b : Bool) → ltb longest (hops_at l at) ≡ b → bad_hops longest (hops_at l at) ≡ b
    far ne b e = ap (λ (x : Bool). pick x true (ltb longest (hops_at l at))) (ne_eqb (hops_at l at) 0 ne) ∙ e

    pub path-far : hops_at l at ≢ 0 → longest < hops_at l at → some (flaw.Hops i) ≡ wrong_at v longest l at i
    path-far ne h = wrong_is uncut (far ne true (lt-ltb longest (hops_at l at) h)) refl

    pub path-short : hops_at l at ≢ 0 → hops_at l at ≤ longest → length l < after v l at → some flaw.Cut ≡ wrong_at v longest l at i
    path-short ne h g = wrong_is uncut (far ne false (le-ltb longest (hops_at l at) h)) (lt-ltb (length l) (after v l at) g)

    pub path-fine : hops_at l at ≢ 0 → hops_at l at ≤ longest → after v l at ≤ length l → none ≡ wrong_at v longest l at i
    path-fine ne h g = wrong_is uncut (far ne false (le-ltb longest (hops_at l at) h)) (le-ltb (length l) (after v l at) g)

-- a path with nothing wrong
pub record Fine (v longest : ℕ) (l : List ℕ) (at : ℕ) : Type 0 where
  pub begun : at + 2 ≤ length l
  pub some-hops : 0 < hops_at l at
  pub short : hops_at l at ≤ longest
  pub within : after v l at ≤ length l

pub fine : (v longest : ℕ) (l : List ℕ) (at i : ℕ) → wrong_at v longest l at i ≡ none → Fine v longest l at
fine v longest l at i e =
    let a = flawed-none (ltb (length l) (at + 2)) flaw.Cut _ e in
    let b = flawed-none (bad_hops longest (hops_at l at)) (flaw.Hops i) _ a.1 in
    let c = flawed-none (ltb (length l) (after v l at)) flaw.Cut _ b.1 in
    let d = hops-none (eqb (hops_at l at) 0) refl b.0 in
    record { begun = ltb-false (length l) (at + 2) a.0; some-hops = omega (arith, d.0); short = d.1; within = ltb-false (length l) (after v l at) c.0 }
  where
    hops-none : (b : Bool) → eqb (hops_at l at) 0 ≡ b → pick b true (ltb longest (hops_at l at)) ≡ false → (hops_at l at ≢ 0) × (hops_at l at ≤ longest)
    hops-none true p q = let z : ◌≡◌ {A = ℕ} 0 1 = cc in absurd (omega arith)
    hops-none false p q = (eqb-false (hops_at l at) 0 p, ltb-false longest (hops_at l at) q)

strode_flaw : Strode → Option Flaw
strode_flaw (strode o to) = o

strode_to : Strode → ℕ
strode_to (strode o to) = to

pub strode_next : (o : Option Flaw) {to : ℕ} (next : ℕ) → strode none to ≡ tell_stride o next → (o ≡ none) × (to ≡ next)
unfolding strode_flaw strode_to
strode_next none next e = (refl, ap strode_to e)
strode_next (some f) next e = let z : ◌≡◌ {A = Option Flaw} none (some f) = ap strode_flaw e in absurd (let y : ◌≡◌ {A = ℕ} 0 1 = cc in omega arith)

pub strode_flawed : (o : Option Flaw) {f : Flaw} (next : ℕ) → strode (some f) 0 ≡ tell_stride o next → some f ≡ o
unfolding strode_flaw
strode_flawed none next e = ap strode_flaw e
strode_flawed (some g) next e = ap strode_flaw e

pub looked-more : (v longest : ℕ) (l : List ℕ) (at i k : ℕ) → looked v longest l at i (suc k) ≡ before (wrong_at v longest l at i) (looked v longest l (after v l at) (suc i) k)
unfolding looked
looked-more v longest l at i k = go (ltb (length l) (at + 2)) (bad_hops longest (hops_at l at)) (ltb (length l) (after v l at))
  where
    go : (a b c : Bool) → flawed a flaw.Cut (flawed b (flaw.Hops i) (flawed c flaw.Cut (looked v longest l (after v l at) (suc i) k)))
        ≡ before (flawed a flaw.Cut (flawed b (flaw.Hops i) (flawed c flaw.Cut none))) (looked v longest l (after v l at) (suc i) k)
    go true b c = refl
    go false true c = refl
    go false false true = refl
    go false false false = refl

-- ---- paths that nothing stands against

-- one of them, and the rest
pub looked-first : (v longest : ℕ) (l : List ℕ) (at i k : ℕ) → looked v longest l at i (suc k) ≡ none → Fine v longest l at × (looked v longest l (after v l at) (suc i) k ≡ none)
looked-first v longest l at i k e =
    let r = before-none (wrong_at v longest l at i) (looked v longest l (after v l at) (suc i) k) (sym (looked-more v longest l at i k) ∙ e) in
    (fine v longest l at i r.0, r.1)

-- no path is longer than the longest
pub looked_within : (v longest : ℕ) (l : List ℕ) (at i k : ℕ) → looked v longest l at i k ≡ none → Within longest (paths_at v l at k)
unfolding paths_at
looked_within v longest l at i zero e = tt
looked_within v longest l at i (suc k) e =
    let r = looked-first v longest l at i k e in
    (omega (arith, relays-count l (at + head v) (hops_at l at), r.0.short), looked_within v longest l (after v l at) (suc i) k r.1)

-- ---- the loop

-- the paths before path i are looked through
pub record Looking (v longest : ℕ) (l : List ℕ) (k at i : ℕ) : Type 0 where
  pub within : i ≤ k
  pub reached : at ≤ length l
  pub rest : looked v longest l HEAD 0 k ≡ looked v longest l at i (k - i)

pub looking_starts : (v longest : ℕ) (l : List ℕ) (k : ℕ) → HEAD ≤ length l → Looking v longest l k HEAD 0
looking_starts v longest l k h = record { within = omega arith; reached = h; rest = let all : k ≡ k - 0 = omega arith in ap (looked v longest l HEAD 0) all }

module _ {v longest : ℕ} {l : List ℕ} {k at i : ℕ} (q : Looking v longest l k at i) where
  next_is : i < k → looked v longest l HEAD 0 k ≡ before (wrong_at v longest l at i) (looked v longest l (after v l at) (suc i) (k - (i + 1)))
  next_is h =
      let one : k - i ≡ suc (k - (i + 1)) = omega arith in
      q.rest ∙ ap (looked v longest l at i) one ∙ looked-more v longest l at i (k - (i + 1))

  pub looking_more : {to : ℕ} → i < k → wrong_at v longest l at i ≡ none → to ≡ after v l at → Looking v longest l k to (i + 1)
  looking_more {to} h e t = record {
    within = omega arith;
    reached = omega (arith, t, (fine v longest l at i e).within);
    rest =
        next_is h ∙ ap (λ (o : Option Flaw). before o (looked v longest l (after v l at) (suc i) (k - (i + 1)))) e
        ∙ ap (λ (x : ℕ). looked v longest l x (suc i) (k - (i + 1))) (sym t) ∙ ap (λ (x : ℕ). looked v longest l to x (k - (i + 1))) (sym (add-one i));
  }

  pub looking_stops : {f : Flaw} → i < k → some f ≡ wrong_at v longest l at i → some f ≡ looked v longest l HEAD 0 k
  looking_stops h e = sym (next_is h ∙ ap (λ (o : Option Flaw). before o (looked v longest l (after v l at) (suc i) (k - (i + 1)))) (sym e))

  ended : k ≤ i → looked v longest l HEAD 0 k ≡ flawed (not (eqb at (length l))) flaw.LeftOver none
  unfolding looked
  ended h = let none_left : k - i ≡ 0 = omega arith in q.rest ∙ ap (looked v longest l at i) none_left

  pub looking_left : k ≤ i → at < length l → some flaw.LeftOver ≡ looked v longest l HEAD 0 k
  looking_left h g = sym (ended h ∙ ap (λ (b : Bool). flawed (not b) flaw.LeftOver none) (ne_eqb at (length l) (λ e. omega (arith, e))))

  pub looking_ends : k ≤ i → length l ≤ at → none ≡ looked v longest l HEAD 0 k
  looking_ends h g = sym (ended h ∙ ap (λ (b : Bool). flawed (not b) flaw.LeftOver none) (eq-eqb at (length l) (omega (arith, q.reached))))
