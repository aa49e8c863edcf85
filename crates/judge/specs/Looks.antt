-- The first finding of a path, test by test as code goes through them: `too_long`, `not_long` to `not_filled`, `all_filled`. Assumes nothing.
use Rattle.std.specs.Prelude.{ℕ, ◌+◌, ◌-◌, ◌≤◌, ◌<◌, ◌≡◌, Bool, true, false, not, ◌≢◌, List, eqb}
use Rattle.std.proofs.Math.Path.{refl, ap₂}
use Rattle.std.proofs.Common.{sym, ap, ◌∙◌, arith, lt-ltb, le-ltb, eq-eqb, ne_eqb}
use Rattle.scan.specs.Scan.{Spot, nowhere, at, seek}
use Rattle.paths.specs.Rules.{Rules, span}
use Rattle.paths.specs.Fan.{relay, hops}
use Rattle.paths.specs.Finding.{Finding, clean, found, report, report-at, unlinked, seen, unfilled, unlinked_at, seen_at, unfilled_at, finding_of}

-- ---- one test

-- what is told is not that nothing was found
pub told : {n i p : ℕ} → found n i p ≡ clean → ⊥
told e = let z : ◌≡◌ {A = ℕ} 0 1 = cc in omega arith

reported : {b : Bool} (f rest : Finding) → b ≡ true → f ≡ report b f rest
reported f rest e = sym (ap (λ (b : Bool). report b f rest) e)

passed : {b : Bool} (f rest : Finding) → b ≡ false → rest ≡ report b f rest
passed f rest e = sym (ap (λ (b : Bool). report b f rest) e)

reported_at : {sp : Spot} {p : ℕ} (f : ℕ → Finding) (rest : Finding) → sp ≡ at p → f p ≡ report-at sp f rest
reported_at f rest e = sym (ap (λ (sp : Spot). report-at sp f rest) e)

passed_by : {sp : Spot} (f : ℕ → Finding) (rest : Finding) → sp ≡ nowhere → rest ≡ report-at sp f rest
passed_by f rest e = sym (ap (λ (sp : Spot). report-at sp f rest) e)

-- ---- one path

-- a look at path i, which is to lead from s to t
pub record Look : Type 0 where
  pub r : Rules
  pub w : ℕ
  pub s : ℕ
  pub t : ℕ
  pub places : List ℕ
  pub counts : List ℕ
  pub i : ℕ
  pub wide : w ≡ span r

module _ (l : Look) where
  abbrev h : ℕ
  h = hops l.counts l.i

  -- what stands at place p, at the width that the definition has and at the one that code has
  abbrev there : ℕ → ℕ
  there p = relay (span l.r) l.places l.i p

  abbrev here : ℕ → ℕ
  here p = relay l.w l.places l.i p

  -- what is left to look for after each test: 25, 24 on, 23 on, 22 on, 21 on
  abbrev pub from25 : Finding
  from25 = report-at (unfilled_at l.r l.places l.counts l.i) (found 25 l.i) clean

  abbrev pub from24 : Finding
  from24 = report-at (seen_at l.r l.places l.counts l.i) (found 24 l.i) from25

  abbrev pub from23 : Finding
  from23 = report (not (eqb (there h) l.t)) (found 23 l.i h) from24

  abbrev pub from22 : Finding
  from22 = report-at (unlinked_at l.r l.places l.counts l.i) (found 22 l.i) from23

  abbrev pub from21 : Finding
  from21 = report (not (eqb (there 0) l.s)) (found 21 l.i 0) from22

  abbrev pub from20 : Finding
  from20 = finding_of l.r l.s l.t l.places l.counts l.i clean

  -- code's tests
  same_place : (p : ℕ) → here p ≡ there p
  same_place p = ap (λ (v : ℕ). relay v l.places l.i p) l.wide

  differs : (p y : ℕ) {x : ℕ} → x ≡ here p → x ≢ y → not (eqb (there p) y) ≡ true
  differs p y e ne = ap not (ne_eqb (there p) y (λ z. ne (e ∙ same_place p ∙ z)))

  agrees : (p y : ℕ) {x : ℕ} → x ≡ here p → x ≡ y → not (eqb (there p) y) ≡ false
  agrees p y e f = ap not (eq-eqb (there p) y (sym (same_place p) ∙ sym e ∙ f))

  -- code's searches
  abbrev pub link_spot : Spot
  link_spot = seek (unlinked l.r l.places l.i) 1 h

  abbrev pub seen_spot : Spot
  seen_spot = seek (seen l.r l.places l.counts l.i) 0 (h + 1)

  abbrev pub fill_spot : Spot
  fill_spot = seek (unfilled l.w l.places l.i) (h + 1) (l.w - (h + 1))

  links_sought : link_spot ≡ unlinked_at l.r l.places l.counts l.i
  unfolding unlinked_at
  links_sought = refl

  seen_sought : seen_spot ≡ seen_at l.r l.places l.counts l.i
  unfolding seen_at
  seen_sought = refl

  fill_sought : fill_spot ≡ unfilled_at l.r l.places l.counts l.i
  unfolding unfilled_at
  fill_sought =
      let left : l.w - (h + 1) ≡ l.r.limit - h = omega (arith, l.wide) in
      ap₂ (λ (v n : ℕ). seek (unfilled v l.places l.i) (h + 1) n) l.wide left

  pub too_long : l.w ≤ h → found 20 l.i 0 ≡ from20
  unfolding finding_of
  too_long g = reported (found 20 l.i 0) from21 (lt-ltb l.r.limit h (omega (arith, l.wide)))

  pub not_long : h < l.w → from21 ≡ from20
  unfolding finding_of
  not_long g = passed (found 20 l.i 0) from21 (le-ltb l.r.limit h (omega (arith, l.wide)))

  pub wrong_start : {x : ℕ} → x ≡ here 0 → x ≢ l.s → found 21 l.i 0 ≡ from21
  wrong_start e ne = reported (found 21 l.i 0) from22 (differs 0 l.s e ne)

  pub right-start : {x : ℕ} → x ≡ here 0 → x ≡ l.s → from22 ≡ from21
  right-start e f = passed (found 21 l.i 0) from22 (agrees 0 l.s e f)

  pub wrong_link : {p : ℕ} → at p ≡ link_spot → found 22 l.i p ≡ from22
  wrong_link e = reported_at (found 22 l.i) from23 (sym links_sought ∙ sym e)

  pub right-links : nowhere ≡ link_spot → from23 ≡ from22
  right-links e = passed_by (found 22 l.i) from23 (sym links_sought ∙ sym e)

  pub wrong_end : {x : ℕ} → x ≡ here h → x ≢ l.t → found 23 l.i h ≡ from23
  wrong_end e ne = reported (found 23 l.i h) from24 (differs h l.t e ne)

  pub right_end : {x : ℕ} → x ≡ here h → x ≡ l.t → from24 ≡ from23
  right_end e f = passed (found 23 l.i h) from24 (agrees h l.t e f)

  pub seen_again : {p : ℕ} → at p ≡ seen_spot → found 24 l.i p ≡ from24
  seen_again e = reported_at (found 24 l.i) from25 (sym seen_sought ∙ sym e)

  pub none_seen : nowhere ≡ seen_spot → from25 ≡ from24
  none_seen e = passed_by (found 24 l.i) from25 (sym seen_sought ∙ sym e)

  pub not_filled : {p : ℕ} → at p ≡ fill_spot → found 25 l.i p ≡ from25
  not_filled e = reported_at (found 25 l.i) clean (sym fill_sought ∙ sym e)

  pub all_filled : nowhere ≡ fill_spot → clean ≡ from25
  all_filled e = passed_by (found 25 l.i) clean (sym fill_sought ∙ sym e)
