-- The same with numbers that do not wrap: every arrival stands for a whole number (`whole`), of which its frame carries the lowest 16 bits. No whole number is
-- passed twice, however long the sequence (`whole_once`, at the record `frames_once`), and none is refused as seen for another's sake (`seen-whole`).
-- Assumes nothing.
use Rattle.std.specs.Prelude.{◌≡◌, ℕ, ◌+◌, ◌-◌, ◌%◌, ◌<◌, ◌≤◌, true, false, ◌⊎◌, List, [], ◌∷◌, ◌++◌, ◌≢◌}
use Rattle.std.proofs.Common.{sym, ap, ◌∙◌, subst, inl, inr, arith}
use Rattle.scan.specs.Scan.{pick}
use Rattle.scan.specs.Laws.{true-or}
use Rattle.arrivals.specs.Says.{minus, further, near, arrival, number_of}
use Rattle.arrivals.specs.Laws.{near-true, near-below, near-further, further-some, further-most}
use Rattle.arrivals.specs.History.{newest, verdict, Sixteen, Stays}
use Rattle.arrivals.specs.Moments.{newest-further, newest_stays, newest-below, verdict_old, never_twice, Passed, seen_means}
use Rattle.arrivals.specs.Follows.{after, arrivals_ruled}
use Rattle.arrivals.specs.declared.Record.{Record}

-- the whole number of the newest: the first frame's is 65,536 above the number that it carries
unfoldable pub top : List ℕ → ℕ
top [] = 0
top (x ∷ []) = 65536 + x
top (x ∷ y ∷ h) = pick (further (newest (y ∷ h)) x) (top (y ∷ h) + minus x (newest (y ∷ h))) (top (y ∷ h))

-- the whole number of x, as it arrives after a history: so far ahead of the newest, or so far behind it
unfoldable pub whole : (h : List ℕ) (x : ℕ) → ℕ
whole [] x = 65536 + x
whole (y ∷ h) x = pick (further (newest (y ∷ h)) x) (top (y ∷ h) + minus x (newest (y ∷ h))) (top (y ∷ h) - minus (newest (y ∷ h)) x)

-- ---- the newest

-- the newest number is the lowest 16 bits of the newest whole number
record Tops (h : List ℕ) : Type 0 where
  bits : top h % 65536 ≡ newest h
  least : 65536 ≤ top h

-- two numbers apart
wrap_up : (a n x : ℕ) → a % 65536 ≡ n → x < 65536 → (a + minus x n) % 65536 ≡ x
unfolding minus
wrap_up a n x e s = omega arith

wrap_down : (a n x : ℕ) → a % 65536 ≡ n → 65536 ≤ a → x < 65536 → (a - minus n x) % 65536 ≡ x
unfolding minus
wrap_down a n x e l s = omega arith

apart : (a w n x : ℕ) → a % 65536 ≡ n → w % 65536 ≡ x → w ≤ a → a < w + 64 → minus n x < 64
unfolding minus
apart a w n x e f p q = omega arith

module _ (y : ℕ) (h : List ℕ) (x : ℕ) where
  top-further : further (newest (y ∷ h)) x ≡ true → top (x ∷ y ∷ h) ≡ top (y ∷ h) + minus x (newest (y ∷ h))
  unfolding top
  top-further e = simp e

  top_stays : further (newest (y ∷ h)) x ≡ false → top (x ∷ y ∷ h) ≡ top (y ∷ h)
  unfolding top
  top_stays e = simp e

  whole-further : further (newest (y ∷ h)) x ≡ true → whole (y ∷ h) x ≡ top (y ∷ h) + minus x (newest (y ∷ h))
  unfolding whole
  whole-further e = simp e

  whole_stays : further (newest (y ∷ h)) x ≡ false → whole (y ∷ h) x ≡ top (y ∷ h) - minus (newest (y ∷ h)) x
  unfolding whole
  whole_stays e = simp e

tops : (x : ℕ) (h : List ℕ) → Sixteen (x ∷ h) → Tops (x ∷ h)
unfolding top newest
tops x [] s = record { bits = omega (arith, s.0); least = omega arith }
tops x (y ∷ h) s = go (true-or (further (newest (y ∷ h)) x)) (tops y h s.1)
  where
    go : (further (newest (y ∷ h)) x ≡ true) ⊎ (further (newest (y ∷ h)) x ≡ false) → Tops (y ∷ h) → Tops (x ∷ y ∷ h)
    go (inl e) t = record {
      bits = ap (λ (a : ℕ). a % 65536) (top-further y h x e) ∙ wrap_up (top (y ∷ h)) (newest (y ∷ h)) x t.bits s.0 ∙ sym (newest-further y h x e);
      least = omega (arith, top-further y h x e, t.least);
    }
    go (inr e) t = record {
      bits = ap (λ (a : ℕ). a % 65536) (top_stays y h x e) ∙ t.bits ∙ sym (newest_stays y h x e);
      least = omega (arith, top_stays y h x e, t.least);
    }

-- it only grows
grows : (x : ℕ) (h : List ℕ) → top h ≤ top (x ∷ h)
unfolding top
grows x [] = omega arith
grows x (y ∷ h) = go (true-or (further (newest (y ∷ h)) x))
  where
    go : (further (newest (y ∷ h)) x ≡ true) ⊎ (further (newest (y ∷ h)) x ≡ false) → top (y ∷ h) ≤ top (x ∷ y ∷ h)
    go (inl e) = omega (arith, top-further y h x e)
    go (inr e) = omega (arith, top_stays y h x e)

grows_on : (l h : List ℕ) → top h ≤ top (l ++ h)
grows_on [] h = omega arith
grows_on (x ∷ l) h = omega (arith, grows_on l h, grows x (l ++ h))

-- ---- an arrival

-- a frame carries the lowest 16 bits of its whole number
pub whole-bits : (h : List ℕ) (x : ℕ) → Sixteen (x ∷ h) → whole h x % 65536 ≡ x
unfolding whole
whole-bits [] x s = omega (arith, s.0)
whole-bits (y ∷ h) x s = go (true-or (further (newest (y ∷ h)) x))
  where
    t : Tops (y ∷ h)
    t = tops y h s.1

    go : (further (newest (y ∷ h)) x ≡ true) ⊎ (further (newest (y ∷ h)) x ≡ false) → whole (y ∷ h) x % 65536 ≡ x
    go (inl e) = ap (λ (a : ℕ). a % 65536) (whole-further y h x e) ∙ wrap_up (top (y ∷ h)) (newest (y ∷ h)) x t.bits s.0
    go (inr e) = ap (λ (a : ℕ). a % 65536) (whole_stays y h x e) ∙ wrap_down (top (y ∷ h)) (newest (y ∷ h)) x t.bits t.least s.0

-- what is passed is not above the newest of then
passed_within : (h : List ℕ) (x : ℕ) → whole h x ≤ top (x ∷ h)
unfolding whole top
passed_within [] x = omega arith
passed_within (y ∷ h) x = go (true-or (further (newest (y ∷ h)) x))
  where
    go : (further (newest (y ∷ h)) x ≡ true) ⊎ (further (newest (y ∷ h)) x ≡ false) → whole (y ∷ h) x ≤ top (x ∷ y ∷ h)
    go (inl e) = omega (arith, whole-further y h x e, top-further y h x e)
    go (inr e) = omega (arith, whole_stays y h x e, top_stays y h x e)

-- a number passed is above every one before, or among the newest 64
passed_where : (h : List ℕ) (x : ℕ) → verdict h x ≡ 0 → (top h < whole h x) ⊎ (top h < whole h x + 64)
unfolding whole top
passed_where [] x v = inl (omega arith)
passed_where (y ∷ h) x v = go (true-or (further n x)) (true-or (near n x))
  where
    n : ℕ
    n = newest (y ∷ h)

    go : (further n x ≡ true) ⊎ (further n x ≡ false) → (near n x ≡ true) ⊎ (near n x ≡ false) → (top (y ∷ h) < whole (y ∷ h) x) ⊎ (top (y ∷ h) < whole (y ∷ h) x + 64)
    go (inl e) g = inl (omega (arith, whole-further y h x e, further-some n x e))
    go (inr e) (inl g) = inr (omega (arith, whole_stays y h x e, near-below n x g))
    go (inr e) (inr g) = absurd (omega (arith, verdict_old y h x e g))

-- ---- never twice

-- while the newest is less than 64 above it, x stands among the newest 64
stands : (x w : ℕ) (before since : List ℕ) → w % 65536 ≡ x → w ≤ top (x ∷ before) → top (since ++ (x ∷ before)) < w + 64
    → Sixteen (since ++ (x ∷ before)) → Stays x before since
stands x w before [] e p q s = tt
stands x w before (y ∷ since) e p q s =
    let l = since ++ (x ∷ before) in (
      near-true (newest (y ∷ l)) x (apart (top (y ∷ l)) w (newest (y ∷ l)) x (tops y l s).bits e (omega (arith, grows_on since (x ∷ before), grows y l)) q),
      stands x w before since e p (omega (arith, grows y l)) s.1,
    )

-- no whole number is passed twice
pub whole_once : (x z : ℕ) (before since : List ℕ) → Sixteen (x ∷ before) → Sixteen (z ∷ (since ++ (x ∷ before)))
    → verdict before x ≡ 0 → verdict (since ++ (x ∷ before)) z ≡ 0 → whole before x ≢ whole (since ++ (x ∷ before)) z
whole_once x z before since b s v u e = go (passed_where h z u)
  where
    h : List ℕ
    h = since ++ (x ∷ before)

    same : z ≡ x
    same = sym (whole-bits h z s) ∙ ap (λ (a : ℕ). a % 65536) (sym e) ∙ whole-bits before x b

    go : (top h < whole h z) ⊎ (top h < whole h z + 64) → ⊥
    go (inl l) = omega (arith, passed_within before x, grows_on since (x ∷ before))
    go (inr l) =
        let again = never_twice x before since s.1 b.0 v (stands x (whole before x) before since (whole-bits before x b) (passed_within before x) (omega arith) s.1) in
        let z : ◌≡◌ {A = ℕ} 0 41 = sym u ∙ ap (verdict h) same ∙ again in
        omega arith

pub frames_once : (r : Record) → r.marks ≡ 0 → (x z : ℕ) (before since : List ℕ) → Sixteen (x ∷ before) → Sixteen (z ∷ (since ++ (x ∷ before)))
    → number_of (arrival (after r before) x) ≡ 0 → number_of (arrival (after r (since ++ (x ∷ before))) z) ≡ 0 → whole before x ≢ whole (since ++ (x ∷ before)) z
frames_once r f x z before since b s v u e =
    whole_once x z before since b s (sym (arrivals_ruled r f before x b) ∙ v) (sym (arrivals_ruled r f (since ++ (x ∷ before)) z s) ∙ u) e

-- ---- and none is taken for another

jump : (y z : ℕ) (h : List ℕ) → top (y ∷ z ∷ h) ≤ top (z ∷ h) + 32767
jump y z h = go (true-or (further (newest (z ∷ h)) y))
  where
    go : (further (newest (z ∷ h)) y ≡ true) ⊎ (further (newest (z ∷ h)) y ≡ false) → top (y ∷ z ∷ h) ≤ top (z ∷ h) + 32767
    go (inl e) = omega (arith, top-further z h y e, further-most (newest (z ∷ h)) y e)
    go (inr e) = omega (arith, top_stays z h y e)

jump_on : (y x : ℕ) (before since : List ℕ) → top (y ∷ (since ++ (x ∷ before))) ≤ top (since ++ (x ∷ before)) + 32767
jump_on y x before [] = jump y x before
jump_on y x before (z ∷ since) = jump y z (since ++ (x ∷ before))

-- how far above w the newest is, where it is not far
exact : (a w n x : ℕ) → a % 65536 ≡ n → w % 65536 ≡ x → w ≤ a → a < w + 65536 → minus n x ≡ a - w
unfolding minus
exact a w n x e f p q = omega arith

passed_close : (h : List ℕ) (x : ℕ) → verdict h x ≡ 0 → top (x ∷ h) < whole h x + 64
unfolding whole top
passed_close [] x v = omega arith
passed_close (y ∷ h) x v = go (true-or (further n x)) (true-or (near n x))
  where
    n : ℕ
    n = newest (y ∷ h)

    go : (further n x ≡ true) ⊎ (further n x ≡ false) → (near n x ≡ true) ⊎ (near n x ≡ false) → top (x ∷ y ∷ h) < whole (y ∷ h) x + 64
    go (inl e) g = omega (arith, whole-further y h x e, top-further y h x e)
    go (inr e) (inl g) = omega (arith, whole_stays y h x e, top_stays y h x e, near-below n x g)
    go (inr e) (inr g) = absurd (omega (arith, verdict_old y h x e g))

-- while x stands among the newest 64, the newest is less than 64 above its whole number
close : (x w : ℕ) (before since : List ℕ) → w % 65536 ≡ x → w ≤ top (x ∷ before) → top (x ∷ before) < w + 64 → Sixteen (since ++ (x ∷ before)) → Stays x before since
    → top (since ++ (x ∷ before)) < w + 64
close x w before [] e p q s t = q
close x w before (y ∷ since) e p q s t =
    let l = since ++ (x ∷ before) in
    let last = close x w before since e p q s.1 t.1 in
    let low : w ≤ top (y ∷ l) = omega (arith, grows_on since (x ∷ before), grows y l) in
    let d = exact (top (y ∷ l)) w (newest (y ∷ l)) x (tops y l s).bits e low (omega (arith, last, jump_on y x before since)) in
    omega (arith, d, near-below (newest (y ∷ l)) x t.0, low)

-- the whole number of x where the newest is less than 64 above w, whose lowest bits x is
at_top : (y : ℕ) (h : List ℕ) (x w : ℕ) → Sixteen (y ∷ h) → x < 65536 → w % 65536 ≡ x → w ≤ top (y ∷ h) → top (y ∷ h) < w + 64 → whole (y ∷ h) x ≡ w
at_top y h x w s l e p q =
    let n = newest (y ∷ h) in
    let d = exact (top (y ∷ h)) w n x (tops y h s).bits e p (omega arith) in
    let f = near-further n x (newest-below y h s) l (omega arith) in
    omega (arith, whole_stays y h x f)

later : (l h : List ℕ) → Sixteen (l ++ h) → Sixteen h
later [] h s = s
later (x ∷ l) h s = later l h s.1

same_whole : (x : ℕ) (before since : List ℕ) → Sixteen (since ++ (x ∷ before)) → verdict before x ≡ 0 → Stays x before since → whole before x ≡ whole (since ++ (x ∷ before)) x
same_whole x before since s v t = go since s (close x w before since bits low (passed_close before x v) s t) (grows_on since (x ∷ before))
  where
    w : ℕ
    w = whole before x

    b : Sixteen (x ∷ before)
    b = later since (x ∷ before) s

    bits : w % 65536 ≡ x
    bits = whole-bits before x b

    low : w ≤ top (x ∷ before)
    low = passed_within before x

    go : (l : List ℕ) → Sixteen (l ++ (x ∷ before)) → top (l ++ (x ∷ before)) < w + 64 → top (x ∷ before) ≤ top (l ++ (x ∷ before)) → w ≡ whole (l ++ (x ∷ before)) x
    go [] s q g = sym (at_top x before x w s b.0 bits low q)
    go (y ∷ l) s q g = sym (at_top y (l ++ (x ∷ before)) x w s b.0 bits (omega (arith, low)) q)

-- a number refused as seen was passed before, as the same whole number
pub record Before (h : List ℕ) (x : ℕ) : Type 0 where
  pub passed : Passed h x
  pub same : whole passed.before x ≡ whole h x

pub seen-whole : (h : List ℕ) (x : ℕ) → Sixteen h → verdict h x ≡ 41 → Before h x
seen-whole h x s v =
    let p = seen_means h x v in
    record {
      passed = p;
      same = same_whole x p.before p.since (subst Sixteen p.is s) p.passed p.stays ∙ ap (λ (l : List ℕ). whole l x) (sym p.is);
    }
