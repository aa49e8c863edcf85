-- The record follows the history: after every sequence of arrivals from a fresh record, what becomes of a number is what the rules over the history
-- say (`arrivals_ruled`, of a whole sequence `told-ruled`), and none is passed twice while it stands among the newest 64 (`passed_once`). By induction:
-- the record holds the history's newest number, and the marks of the 64 newest (`Follows`); one arrival keeps that (`step`). Assumes nothing.
use Rattle.std.specs.Prelude.{◌≡◌, ℕ, zero, suc, ◌+◌, ◌-◌, ◌<◌, ◌≤◌, Bool, true, false, ◌⊎◌, List, [], ◌∷◌, ◌++◌, ◌==◌, ◌≢◌, nat_eq, refl}
use Rattle.std.proofs.Common.{sym, ap, ap₂, ◌∙◌, subst, inl, inr, arith, eq-eqb}
use Rattle.std.proofs.Math.Decide.{ℕ_discrete}
use Rattle.scan.specs.Laws.{true-or, true-false}
use Rattle.bits.specs.Bit.{bit, flip}
use Rattle.bits.specs.Laws.{bit-cases, bit-none, bit-pow-same, bit-pow-other, flip-same, flip-other, lt-or-le}
use Rattle.arrivals.specs.Says.{Arrival, Passed, Seen, Old, minus, further, near, kept, moved, arrival, number_of, record_of}
use Rattle.arrivals.specs.Laws as laws
use Rattle.arrivals.specs.Marks.{moved-newest, moved_between, moved_older}
use Rattle.arrivals.specs.History.{newest, ruled, marked, verdict, Sixteen, Stays}
use Rattle.arrivals.specs.Moments as moments
use Rattle.arrivals.specs.declared.Record.{Record}

-- the record after a history that began at r
unfoldable pub after : Record → List ℕ → Record
after r [] = r
after r (x ∷ h) = record_of (arrival (after r h) x)

-- newest number n and marks m are those of the history
pub record Holds (h : List ℕ) (n m : ℕ) : Type 0 where
  pub first : n ≡ newest h
  pub marks : (i : ℕ) → i < 64 → (bit i m == 1) ≡ marked h (minus n i)

-- of no arrival there is no mark
abbrev pub Follows : List ℕ → Record → Type 0
Follows [] r = r.marks ≡ 0
Follows (y ∷ h) r = Holds (y ∷ h) r.newest r.marks

-- ---- one number more

-- the place of a number among the newest 64
near-at : (n i : ℕ) → n < 65536 → i < 64 → near n (minus n i) ≡ true
near-at n i p l = laws.near-true n (minus n i) (omega (arith, laws.minus_back n i p (omega arith)))

-- a number before the newest is another
apart : (x i : ℕ) → x < 65536 → i < 64 → x ≢ minus x (suc i)
apart x i p l e = omega (arith, laws.minus_back x (suc i) p (omega arith), ap (minus x) e, laws.minus_self x p)

unset : (b : ℕ) → b ≡ 0 → (b == 1) ≡ false
unset b e = ap (λ (u : ℕ). nat_eq u 1) e

holds_first : (x : ℕ) → x < 65536 → Holds (x ∷ []) x 1
unfolding newest marked verdict ruled
holds_first x s = record { first = refl; marks = each }
  where
    each : (i : ℕ) → i < 64 → (bit i 1 == 1) ≡ marked (x ∷ []) (minus x i)
    each zero l =
        eq-eqb (bit 0 1) 1 (bit-pow-same 0) ∙ sym (moments.marked_passed x [] (minus x 0) (near-at x 0 s l) (sym (laws.minus-none x s)) refl)
    each (suc i) l =
        unset (bit (suc i) 1) (bit-pow-other (suc i) 0 (λ e. omega arith)) ∙ sym (moments.marked_other x [] (minus x (suc i)) (near-at x (suc i) s l) (apart x i s (omega arith)))

module _ (y : ℕ) (h : List ℕ) (n m : ℕ) (is : Holds (y ∷ h) n m) (fits : n < 65536) (x : ℕ) (small : x < 65536) where
  -- the tests at the history's newest number
  here : (test : ℕ → ℕ → Bool) (b : Bool) → test n x ≡ b → test (newest (y ∷ h)) x ≡ b
  here test b e = ap (λ (u : ℕ). test u x) (sym is.first) ∙ e

  stays : further n x ≡ false → n ≡ newest (x ∷ y ∷ h)
  stays e = is.first ∙ sym (moments.newest_stays y h x (here further false e))

  stands : further n x ≡ false → (i : ℕ) → i < 64 → near (newest (x ∷ y ∷ h)) (minus n i) ≡ true
  stands e i l = ap (λ (u : ℕ). near u (minus n i)) (sym (stays e)) ∙ near-at n i fits l

  -- the mark of x itself
  mark : minus n x < 64 → marked (y ∷ h) x ≡ (bit (minus n x) m == 1)
  mark l = sym (is.marks (minus n x) l ∙ ap (marked (y ∷ h)) (laws.minus_back n x fits small))

  -- a refused number changes nothing
  holds_refused : further n x ≡ false → (verdict (y ∷ h) x ≢ 0) → Holds (x ∷ y ∷ h) n m
  holds_refused e v = record {
    first = stays e;
    marks = λ i l. is.marks i l ∙ sym (moments.marked_refused x (y ∷ h) (minus n i) (stands e i l) v);
  }

  -- a number among the newest 64 is marked, and no other
  holds_marked : minus n x < 64 → further n x ≡ false → verdict (y ∷ h) x ≡ 0 → bit (minus n x) m ≡ 0 → Holds (x ∷ y ∷ h) n (flip m (minus n x))
  holds_marked g e v b = record { first = stays e; marks = λ i l. each i l (ℕ_discrete i (minus n x)) }
    where
      each : (i : ℕ) → i < 64 → Dec (i ≡ minus n x) → (bit i (flip m (minus n x)) == 1) ≡ marked (x ∷ y ∷ h) (minus n i)
      each i l (yes q) =
          eq-eqb (bit i (flip m (minus n x))) 1 (ap (λ (k : ℕ). bit k (flip m (minus n x))) q ∙ flip-same m (minus n x) ∙ ap (λ (k : ℕ). 1 - k) b)
          ∙ sym (moments.marked_passed x (y ∷ h) (minus n i) (stands e i l) (sym (ap (minus n) q ∙ laws.minus_back n x fits small)) v)
      each i l (no ne) =
          ap (λ (k : ℕ). nat_eq k 1) (flip-other m (minus n x) i ne) ∙ is.marks i l
          ∙ sym (moments.marked_other x (y ∷ h) (minus n i) (stands e i l) (λ q. ne (sym (ap (minus n) q ∙ laws.minus_back n i fits (omega arith)))))

  -- the newest number moves on: the marks with it
  holds_further : 1 ≤ minus x n → minus x n ≤ 32767 → Holds (x ∷ y ∷ h) x (moved m (minus x n))
  holds_further p q = record { first = sym now; marks = each }
    where
      ahead : further (newest (y ∷ h)) x ≡ true
      ahead = here further true (laws.further-true n x p q)

      now : newest (x ∷ y ∷ h) ≡ x
      now = moments.newest-further y h x ahead

      at : (i : ℕ) → i < 64 → near (newest (x ∷ y ∷ h)) (minus x i) ≡ true
      at i l = ap (λ (u : ℕ). near u (minus x i)) now ∙ near-at x i small l

      older : (i : ℕ) → suc i < 64 → (suc i < minus x n) ⊎ (minus x n ≤ suc i) → (bit (suc i) (moved m (minus x n)) == 1) ≡ marked (y ∷ h) (minus x (suc i))
      older i l (inl b) =
          unset (bit (suc i) (moved m (minus x n))) (moved_between m (minus x n) (suc i) (omega arith) b l)
          ∙ sym (moments.marked-near (y ∷ h) (minus x (suc i)) (ap (λ (u : ℕ). near u (minus x (suc i))) (sym is.first)
          ∙ laws.near-false n (minus x (suc i)) (laws.minus_between n x (suc i) fits small q (omega arith) b)))
      older i l (inr b) =
          let k = suc i - minus x n in
          let e : suc i ≡ minus x n + k = omega arith in
          ap (λ (j : ℕ). nat_eq (bit j (moved m (minus x n))) 1) e ∙ ap (λ (v : ℕ). nat_eq v 1) (moved_older m (minus x n) k p (omega arith))
          ∙ is.marks k (omega arith) ∙ ap (marked (y ∷ h)) (sym (ap (minus x) e ∙ laws.minus_older n x k fits small (omega arith)))

      each : (i : ℕ) → i < 64 → (bit i (moved m (minus x n)) == 1) ≡ marked (x ∷ y ∷ h) (minus x i)
      each zero l =
          eq-eqb (bit 0 (moved m (minus x n))) 1 (moved-newest m (minus x n) p)
          ∙ sym (moments.marked_passed x (y ∷ h) (minus x 0) (at 0 l) (sym (laws.minus-none x small)) (moments.verdict-further y h x ahead))
      each (suc i) l = older i l (lt-or-le (suc i) (minus x n)) ∙ sym (moments.marked_other x (y ∷ h) (minus x (suc i)) (at (suc i) l) (apart x i small (omega arith)))

-- ---- every sequence

-- an arrival is told as the history rules, and the record follows
pub record Step (h : List ℕ) (r : Record) (x : ℕ) : Type 0 where
  pub told : number_of (arrival r x) ≡ verdict h x
  pub follows : Follows (x ∷ h) (record_of (arrival r x))

-- an arrival that is known
step_by : (h : List ℕ) (r : Record) (x : ℕ) (a : Arrival) → arrival r x ≡ a → number_of a ≡ verdict h x → Follows (x ∷ h) (record_of a) → Step h r x
step_by h r x a e t f = record { told = ap number_of e ∙ t; follows = subst (λ (b : Arrival). Follows (x ∷ h) (record_of b)) (sym e) f }

-- the newest number of a history is marked
newest-marked : (y : ℕ) (h : List ℕ) → Sixteen (y ∷ h) → marked (y ∷ h) (newest (y ∷ h)) ≡ true
unfolding newest verdict ruled
newest-marked y [] s = moments.marked_passed y [] y (laws.near_self y s.0) refl refl
newest-marked y (z ∷ h) s = go (true-or (further (newest (z ∷ h)) y)) (newest-marked z h s.1)
  where
    self : near (newest (y ∷ z ∷ h)) (newest (y ∷ z ∷ h)) ≡ true
    self = laws.near_self (newest (y ∷ z ∷ h)) (moments.newest-below y (z ∷ h) s)

    go : (further (newest (z ∷ h)) y ≡ true) ⊎ (further (newest (z ∷ h)) y ≡ false) → marked (z ∷ h) (newest (z ∷ h)) ≡ true → marked (y ∷ z ∷ h) (newest (y ∷ z ∷ h)) ≡ true
    go (inl e) m = moments.marked_passed y (z ∷ h) (newest (y ∷ z ∷ h)) self (sym (moments.newest-further z h y e)) (moments.verdict-further z h y e)
    go (inr e) m = moments.marked_stays y (z ∷ h) (newest (y ∷ z ∷ h)) self (ap (marked (z ∷ h)) (moments.newest_stays z h y e) ∙ m)

-- so that the record of a history with an arrival is not fresh
some-marks : (y : ℕ) (h : List ℕ) (n m : ℕ) → Sixteen (y ∷ h) → Holds (y ∷ h) n m → m ≢ 0
some-marks y h n m s is e =
    let below : n < 65536 = omega (arith, is.first, moments.newest-below y h s) in
    true-false (is.marks 0 (omega arith) ∙ ap (marked (y ∷ h)) (laws.minus-none n below ∙ is.first) ∙ newest-marked y h s) (unset (bit 0 m) (ap (bit 0) e ∙ bit-none 0))

module _ (y : ℕ) (h : List ℕ) (r : Record) (is : Follows (y ∷ h) r) (fits : r.newest < 65536) (some : r.marks ≡ 0 → ⊥) (x : ℕ) (small : x < 65536) where
  at : (test : ℕ → ℕ → Bool) (b : Bool) → test r.newest x ≡ b → test (newest (y ∷ h)) x ≡ b
  at = here y h r.newest r.marks is fits x small

  marks : minus r.newest x < 64 → marked (y ∷ h) x ≡ (bit (minus r.newest x) r.marks == 1)
  marks = mark y h r.newest r.marks is fits x small

  step-seen : minus r.newest x < 64 → bit (minus r.newest x) r.marks ≡ 1 → Step (y ∷ h) r x
  step-seen l b =
      let e = laws.near-further r.newest x fits small l in
      let v : verdict (y ∷ h) x ≡ 41 = moments.verdict-seen y h x (at further false e) (at near true (laws.near-true r.newest x l)) (marks l ∙ eq-eqb _ 1 b) in
      step_by (y ∷ h) r x (Seen r) (laws.arrival-seen r x some fits small refl refl l b) (sym v)
      (holds_refused y h r.newest r.marks is fits x small e (λ z. omega arith))

  step-marked : minus r.newest x < 64 → bit (minus r.newest x) r.marks ≡ 0 → Step (y ∷ h) r x
  step-marked l b =
      let e = laws.near-further r.newest x fits small l in
      let v : verdict (y ∷ h) x ≡ 0 = moments.verdict_unmarked y h x (at further false e) (at near true (laws.near-true r.newest x l)) (marks l ∙ unset _ b) in
      step_by (y ∷ h) r x (Passed (kept r.newest (flip r.marks (minus r.newest x)))) (laws.arrival-marked r x some fits small refl refl l b) (sym v)
      (holds_marked y h r.newest r.marks is fits x small l e v b)

  step-further : 64 ≤ minus r.newest x → minus x r.newest ≤ 32767 → Step (y ∷ h) r x
  step-further l d =
      let p : 1 ≤ minus x r.newest = omega (arith, laws.unlike r.newest x fits small, laws.minus-below r.newest x) in
      step_by (y ∷ h) r x (Passed (kept x (moved r.marks (minus x r.newest)))) (laws.arrival-further r x some fits small refl refl l d)
      (sym (moments.verdict-further y h x (at further true (laws.further-true r.newest x p d)))) (holds_further y h r.newest r.marks is fits x small p d)

  step_old : 64 ≤ minus r.newest x → 32767 < minus x r.newest → Step (y ∷ h) r x
  step_old l d =
      let e = laws.further-far r.newest x d in
      let v : verdict (y ∷ h) x ≡ 42 = moments.verdict_old y h x (at further false e) (at near false (laws.near-false r.newest x l)) in
      step_by (y ∷ h) r x (Old r) (laws.arrival_old r x some fits small refl refl l d) (sym v)
      (holds_refused y h r.newest r.marks is fits x small e (λ z. omega arith))

  step-some : Step (y ∷ h) r x
  step-some = go (lt-or-le (minus r.newest x) 64) (bit-cases (minus r.newest x) r.marks) (lt-or-le 32767 (minus x r.newest))
    where
      go : (minus r.newest x < 64) ⊎ (64 ≤ minus r.newest x) → (bit (minus r.newest x) r.marks ≡ 0) ⊎ (bit (minus r.newest x) r.marks ≡ 1)
          → (32767 < minus x r.newest) ⊎ (minus x r.newest ≤ 32767) → Step (y ∷ h) r x
      go (inl l) (inl b) d = step-marked l b
      go (inl l) (inr b) d = step-seen l b
      go (inr l) b (inl d) = step_old l d
      go (inr l) b (inr d) = step-further l d

pub step : (h : List ℕ) (r : Record) (x : ℕ) → Sixteen h → x < 65536 → Follows h r → Step h r x
unfolding verdict ruled
step [] r x s small e = step_by [] r x (Passed (kept x 1)) (laws.arrival-first r x e) refl (holds_first x small)
step (y ∷ h) r x s small is =
    step-some y h r is (omega (arith, is.first, moments.newest-below y h s)) (some-marks y h r.newest r.marks s is) x small

-- the record after every sequence of arrivals at a fresh one
pub follows : (r : Record) → r.marks ≡ 0 → (h : List ℕ) → Sixteen h → Follows h (after r h)
unfolding after
follows r e [] s = e
follows r e (x ∷ h) s = (step h (after r h) x s.1 s.0 (follows r e h s.1)).follows

-- what becomes of a number after every sequence of arrivals at a fresh record is what the rules over the history say
pub arrivals_ruled : (r : Record) → r.marks ≡ 0 → (h : List ℕ) (x : ℕ) → Sixteen (x ∷ h) → number_of (arrival (after r h) x) ≡ verdict h x
arrivals_ruled r e h x s = (step h (after r h) x s.1 s.0 (follows r e h s.1)).told

-- the numbers told of arrivals one after another, the earliest first
unfoldable pub told : Record → List ℕ → List ℕ
told r [] = []
told r (x ∷ l) = number_of (arrival r x) ∷ told (record_of (arrival r x)) l

-- the same by the rules over the history
unfoldable pub verdicts : (h l : List ℕ) → List ℕ
verdicts h [] = []
verdicts h (x ∷ l) = verdict h x ∷ verdicts (x ∷ h) l

told-on : (h : List ℕ) (r : Record) (l : List ℕ) → Sixteen h → Sixteen l → Follows h r → told r l ≡ verdicts h l
unfolding told verdicts
told-on h r [] s t is = refl
told-on h r (x ∷ l) s t is =
    let k = step h r x s t.0 is in
    ap₂ (λ (n : ℕ) (k : List ℕ). n ∷ k) k.told (told-on (x ∷ h) (record_of (arrival r x)) l (t.0, s) t.1 k.follows)

-- over every sequence of arrivals from a fresh record
pub told-ruled : (r : Record) → r.marks ≡ 0 → (l : List ℕ) → Sixteen l → told r l ≡ verdicts [] l
told-ruled r e l s = told-on [] r l tt s e

-- and no number is passed twice while it stands among the newest 64
pub passed_once : (r : Record) → r.marks ≡ 0 → (x : ℕ) (before since : List ℕ) → Sixteen (x ∷ before) → Sixteen (since ++ (x ∷ before))
    → number_of (arrival (after r before) x) ≡ 0 → Stays x before since → number_of (arrival (after r (since ++ (x ∷ before))) x) ≡ 41
passed_once r e x before since b s v t =
    arrivals_ruled r e (since ++ (x ∷ before)) x (b.0, s)
    ∙ moments.never_twice x before since s b.0 (sym (arrivals_ruled r e before x b) ∙ v) t
