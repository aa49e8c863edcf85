-- The search of the paths in their order, under way at path i (`Searched`): what a loop over the paths keeps. Assumes nothing.
--
-- `search_starts`, `search_goes_on`, `search_finds` and `search_ends` are the loop's beginning, turn and two ends.
use Prim.Native.Nat.{ℕ, suc, ◌+◌, ◌-◌, ◌*◌, ◌≤◌, ◌<◌}
use Rattle.std.specs.Prelude.{◌≡◌, refl, Bool, true, false, List, get_or}
use Rattle.std.proofs.Math.Path.{sym, ap}
use Rattle.std.proofs.Common.{◌∙◌, add-one}
use native.Mathlib.Omega.{arith}
use Rattle.std.proofs.Math.Decide.{ℕ_discrete}
use Rattle.std.proofs.Math.ListN.{length}
use Rattle.scan.specs.Scan.{Spot, nowhere, at}
use Rattle.paths.specs.Rules.{Rules, span}
use Rattle.paths.specs.Finding.{Finding, clean, found, report, report-at, finding_of, finding_from, finding_by}
use Rattle.paths.specs.Places.{row_below}
use Rattle.paths.specs.Clear.{path_clear}
use Rattle.judge.specs.Says.{named}
use Rattle.judge_rows.specs.Needs.{Held}
use Rattle.judge.specs.declared.Finding as code
use Rattle.judge.specs.declared.Finding.TheVariants.{TooLong, NotFromSource, NotLinked, NotToTarget, SeenAgain, NotFilled}

-- ---- the first of two findings

abbrev pub before : Finding → Finding → Finding
before clean after = after
before (found n i p) after = found n i p

before-report : (b : Bool) (n i p : ℕ) (x y : Finding) → before (report b (found n i p) x) y ≡ report b (found n i p) (before x y)
before-report true n i p x y = refl
before-report false n i p x y = refl

before_at : (sp : Spot) (n i : ℕ) (x y : Finding) → before (report-at sp (found n i) x) y ≡ report-at sp (found n i) (before x y)
before_at nowhere n i x y = refl
before_at (at p) n i x y = refl

before-named : (f : code.Finding) (rest : Finding) → before (named f) rest ≡ named f
before-named (TooLong i) rest = refl
before-named (NotFromSource i) rest = refl
before-named (NotLinked i p) rest = refl
before-named (NotToTarget i p) rest = refl
before-named (SeenAgain i p) rest = refl
before-named (NotFilled i p) rest = refl

-- ---- the search at path i

module _ (r : Rules) (s : ℕ) (targets places counts : List ℕ) where
  -- path i by itself, and the paths from path i on
  abbrev pub path : ℕ → Finding
  path i = finding_of r s (get_or targets i 0) places counts i clean

  abbrev from : ℕ → Finding
  from i = finding_from r s targets places counts i (length targets - i)

  path-first : (i : ℕ) (rest : Finding) → before (path i) rest ≡ finding_of r s (get_or targets i 0) places counts i rest
  unfolding finding_of
  path-first i rest = simp (before-report, before_at)

  from-path : (i : ℕ) → i < length targets → from i ≡ before (path i) (from (i + 1))
  unfolding finding_from
  from-path i l =
      let left : length targets - i ≡ suc (length targets - (i + 1)) = omega arith in
      ap (finding_from r s targets places counts i) left
      ∙ ap (λ (j : ℕ). finding_of r s (get_or targets i 0) places counts i (finding_from r s targets places counts j (length targets - (i + 1)))) (sym (add-one i))
      ∙ sym (path-first i (from (i + 1)))

  -- nothing was found on the paths before path i, which are held
  pub record Searched (w i : ℕ) : Type 0 where
    pub wide : w ≡ span r
    pub room : length targets * w ≤ length places
    pub counted : length targets ≤ length counts
    pub rest : from i ≡ finding_by r s targets places counts
    pub held : (j : ℕ) → j < i → Held w (length places) counts j

  pub search_starts : {w : ℕ} → w ≡ span r → length targets * w ≤ length places → length targets ≤ length counts → Searched w 0
  unfolding finding_by
  search_starts {w} e l g = record {
    wide = e;
    room = l;
    counted = g;
    rest = ap (finding_from r s targets places counts 0) none_before;
    held = λ j h. absurd (omega arith);
  }
    where
      none_before : length targets - 0 ≡ length targets
      none_before = omega arith

  -- the places of path i
  pub search_room : {w i : ℕ} → Searched w i → i < length targets → i * w + w ≤ length places
  search_room {w} {i} v l = omega (arith, row_below w l, v.room)

  -- a clean path is held too
  clean_held : {w i : ℕ} → Searched w i → i < length targets → path i ≡ clean → Held w (length places) counts i
  clean_held {w} {i} v l e =
      let c = (path_clear r s (get_or targets i 0) places counts i clean e).0 in
      record { counted = omega (arith, v.counted); row = record { room = search_room v l; short = omega (arith, c.short, v.wide) } }

  pub search_goes_on : {w i : ℕ} → Searched w i → i < length targets → clean ≡ path i → Searched w (i + 1)
  search_goes_on {w} {i} v l nothing = record {
    wide = v.wide;
    room = v.room;
    counted = v.counted;
    rest = ap (λ (x : Finding). before x (from (i + 1))) nothing ∙ sym (from-path i l) ∙ v.rest;
    held = λ j h. go j h (ℕ_discrete j i);
  }
    where
      go : (j : ℕ) → j < i + 1 → Dec (j ≡ i) → Held w (length places) counts j
      go j h (yes d) = rw d (clean_held v l (sym nothing))
      go j h (no ne) = v.held j (omega arith)

  pub search_finds : {w i : ℕ} (f : code.Finding) → Searched w i → i < length targets → named f ≡ path i → named f ≡ finding_by r s targets places counts
  search_finds {w} {i} f v l e =
      sym (before-named f (from (i + 1))) ∙ ap (λ (x : Finding). before x (from (i + 1))) e ∙ sym (from-path i l) ∙ v.rest

  pub search_ends : {w i : ℕ} → Searched w i → length targets ≤ i → clean ≡ finding_by r s targets places counts
  unfolding finding_from
  search_ends {w} {i} v l =
      let none : 0 ≡ length targets - i = omega arith in
      ap (finding_from r s targets places counts i) none ∙ v.rest
