-- A history one number longer: its newest number, its marks and its verdict, case by case; and that a number that was passed and has stood
-- among the newest 64 ever since is not passed again (`never_twice`). Assumes nothing.
use Rattle.std.specs.Prelude.{◌≡◌, ℕ, ◌<◌, Bool, true, false, ◌⊎◌, List, [], ◌∷◌, ◌++◌, ◌≢◌, refl}
use Rattle.std.proofs.Common.{sym, ap, ◌∙◌, inl, inr, arith}
use Rattle.std.proofs.Math.Decide.{ℕ_discrete}
use borrow.Author.Tests.{eq-eqb, ne_eqb}
use Rattle.scan.specs.Scan.{pick}
use Rattle.scan.specs.Laws.{true-or, true-false}
use Rattle.arrivals.specs.Says.{further, near}
use Rattle.arrivals.specs.Laws.{near-below, near_self, near-further}
use Rattle.arrivals.specs.History.{newest, ruled, marked, verdict, Sixteen, Stays}

-- ---- the newest number

module _ (y : ℕ) (h : List ℕ) (x : ℕ) where
  pub newest-further : further (newest (y ∷ h)) x ≡ true → newest (x ∷ y ∷ h) ≡ x
  unfolding newest
  newest-further e = simp e

  pub newest_stays : further (newest (y ∷ h)) x ≡ false → newest (x ∷ y ∷ h) ≡ newest (y ∷ h)
  unfolding newest
  newest_stays e = simp e

pub newest-below : (x : ℕ) (h : List ℕ) → Sixteen (x ∷ h) → newest (x ∷ h) < 65536
unfolding newest
newest-below x [] s = s.0
newest-below x (y ∷ h) s = go (true-or (further (newest (y ∷ h)) x)) (newest-below y h s.1)
  where
    go : (further (newest (y ∷ h)) x ≡ true) ⊎ (further (newest (y ∷ h)) x ≡ false) → newest (y ∷ h) < 65536 → newest (x ∷ y ∷ h) < 65536
    go (inl e) b = omega (arith, newest-further y h x e, s.0)
    go (inr e) b = omega (arith, newest_stays y h x e)

-- ---- the verdict

module _ (y : ℕ) (h : List ℕ) (x : ℕ) where
  pub verdict-further : further (newest (y ∷ h)) x ≡ true → verdict (y ∷ h) x ≡ 0
  unfolding verdict ruled
  verdict-further e = simp e

  pub verdict-seen : further (newest (y ∷ h)) x ≡ false → near (newest (y ∷ h)) x ≡ true → marked (y ∷ h) x ≡ true → verdict (y ∷ h) x ≡ 41
  unfolding verdict ruled
  verdict-seen e g m = simp (e, g, m)

  pub verdict_unmarked : further (newest (y ∷ h)) x ≡ false → near (newest (y ∷ h)) x ≡ true → marked (y ∷ h) x ≡ false → verdict (y ∷ h) x ≡ 0
  unfolding verdict ruled
  verdict_unmarked e g m = simp (e, g, m)

  pub verdict_old : further (newest (y ∷ h)) x ≡ false → near (newest (y ∷ h)) x ≡ false → verdict (y ∷ h) x ≡ 42
  unfolding verdict ruled
  verdict_old e g = simp (e, g)

-- ---- the marks

pick_same : {A : Type 0} (b : Bool) (a : A) → pick b a a ≡ a
pick_same true a = refl
pick_same false a = refl

-- what is marked stands among the newest 64
pub marked-near : (h : List ℕ) (z : ℕ) → near (newest h) z ≡ false → marked h z ≡ false
unfolding marked
marked-near [] z e = refl
marked-near (y ∷ h) z e = simp e

module _ (y : ℕ) (h : List ℕ) (z : ℕ) (stands : near (newest (y ∷ h)) z ≡ true) where
  -- a number that is passed is marked
  pub marked_passed : y ≡ z → verdict h y ≡ 0 → marked (y ∷ h) z ≡ true
  unfolding marked verdict
  marked_passed e v = simp (stands, eq-eqb y z e, v)

  -- another number keeps its mark, or has none
  pub marked_other : (y ≢ z) → marked (y ∷ h) z ≡ marked h z
  unfolding marked
  marked_other ne = simp (stands, ne_eqb y z ne)

  -- a refused number marks nothing
  pub marked_refused : (verdict h y ≢ 0) → marked (y ∷ h) z ≡ marked h z
  unfolding marked verdict
  marked_refused ne = simp (stands, ne_eqb (verdict h y) 0 ne, pick_same)

  -- a mark stays
  pub marked_stays : marked h z ≡ true → marked (y ∷ h) z ≡ true
  unfolding marked
  marked_stays m = simp (stands, m, pick_same)

-- ---- passed once

-- where x stands when it is passed
pub passed_near : (h : List ℕ) (x : ℕ) → x < 65536 → verdict h x ≡ 0 → near (newest (x ∷ h)) x ≡ true
unfolding newest
passed_near [] x s v = near_self x s
passed_near (y ∷ h) x s v = go (true-or (further (newest (y ∷ h)) x)) (true-or (near (newest (y ∷ h)) x))
  where
    n : ℕ
    n = newest (y ∷ h)

    go : (further n x ≡ true) ⊎ (further n x ≡ false) → (near n x ≡ true) ⊎ (near n x ≡ false) → near (newest (x ∷ y ∷ h)) x ≡ true
    go (inl e) g = ap (λ (u : ℕ). near u x) (newest-further y h x e) ∙ near_self x s
    go (inr e) (inl g) = ap (λ (u : ℕ). near u x) (newest_stays y h x e) ∙ g
    go (inr e) (inr g) = absurd (omega (arith, verdict_old y h x e g))

pub marked-since : (x : ℕ) (before since : List ℕ) → x < 65536 → verdict before x ≡ 0 → Stays x before since → marked (since ++ (x ∷ before)) x ≡ true
marked-since x before [] s v t = marked_passed x before x (passed_near before x s v) refl v
marked-since x before (y ∷ since) s v t = marked_stays y (since ++ (x ∷ before)) x t.0 (marked-since x before since s v t.1)

-- what is marked and not further ahead was seen
seen : (h : List ℕ) (x : ℕ) → Sixteen h → x < 65536 → marked h x ≡ true → verdict h x ≡ 41
unfolding marked
seen [] x s l m = absurd (true-false m refl)
seen (y ∷ h) x s l m = go (true-or (near (newest (y ∷ h)) x))
  where
    go : (near (newest (y ∷ h)) x ≡ true) ⊎ (near (newest (y ∷ h)) x ≡ false) → verdict (y ∷ h) x ≡ 41
    go (inl e) = verdict-seen y h x (near-further (newest (y ∷ h)) x (newest-below y h s) l (near-below (newest (y ∷ h)) x e)) e m
    go (inr e) = absurd (true-false m (marked-near (y ∷ h) x e))

-- a number that was passed is refused as seen while it stands among the newest 64
pub never_twice : (x : ℕ) (before since : List ℕ) → Sixteen (since ++ (x ∷ before)) → x < 65536
    → verdict before x ≡ 0 → Stays x before since → verdict (since ++ (x ∷ before)) x ≡ 41
never_twice x before since s l v t = seen (since ++ (x ∷ before)) x s l (marked-since x before since l v t)

-- x was passed after `before`, and has stood among the newest 64 since
pub record Passed (h : List ℕ) (x : ℕ) : Type 0 where
  pub before : List ℕ
  pub since : List ℕ
  pub is : h ≡ since ++ (x ∷ before)
  pub passed : verdict before x ≡ 0
  pub stays : Stays x before since

passed_more : (y : ℕ) (h : List ℕ) (x : ℕ) → near (newest (y ∷ h)) x ≡ true → Passed h x → Passed (y ∷ h) x
passed_more y h x e p = record {
  before = p.before;
  since = y ∷ p.since;
  is = ap (λ (l : List ℕ). y ∷ l) p.is;
  passed = p.passed;
  stays = (ap (λ (l : List ℕ). near (newest (y ∷ l)) x) (sym p.is) ∙ e, p.stays);
}

pub marked_means : (h : List ℕ) (x : ℕ) → marked h x ≡ true → Passed h x
unfolding marked
marked_means [] x m = absurd (true-false m refl)
marked_means (y ∷ h) x m = go (true-or (near (newest (y ∷ h)) x)) (ℕ_discrete y x) (ℕ_discrete (verdict h y) 0) (marked_means h x)
  where
    go : (near (newest (y ∷ h)) x ≡ true) ⊎ (near (newest (y ∷ h)) x ≡ false) → Dec (y ≡ x) → Dec (verdict h y ≡ 0) → (marked h x ≡ true → Passed h x) → Passed (y ∷ h) x
    go (inl e) (yes q) (yes v) rest =
        record { before = h; since = []; is = ap (λ (z : ℕ). z ∷ h) q; passed = ap (verdict h) (sym q) ∙ v; stays = tt }
    go (inl e) (yes q) (no v) rest = passed_more y h x e (rest (sym (marked_refused y h x e v) ∙ m))
    go (inl e) (no q) v rest = passed_more y h x e (rest (sym (marked_other y h x e q) ∙ m))
    go (inr e) q v rest = absurd (true-false m (marked-near (y ∷ h) x e))

-- seen is only what was passed, and has stood among the newest 64 since
pub seen_means : (h : List ℕ) (x : ℕ) → verdict h x ≡ 41 → Passed h x
unfolding verdict ruled
seen_means [] x v = absurd (omega arith)
seen_means (y ∷ h) x v = go (true-or (further n x)) (true-or (near n x)) (true-or (marked (y ∷ h) x))
  where
    n : ℕ
    n = newest (y ∷ h)

    go : (further n x ≡ true) ⊎ (further n x ≡ false) → (near n x ≡ true) ⊎ (near n x ≡ false) → (marked (y ∷ h) x ≡ true) ⊎ (marked (y ∷ h) x ≡ false) → Passed (y ∷ h) x
    go (inl e) g m = absurd (omega (arith, verdict-further y h x e))
    go (inr e) (inr g) m = absurd (omega (arith, verdict_old y h x e g))
    go (inr e) (inl g) (inr m) = absurd (omega (arith, verdict_unmarked y h x e g m))
    go (inr e) (inl g) (inl m) = marked_means (y ∷ h) x m
