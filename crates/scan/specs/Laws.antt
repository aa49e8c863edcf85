-- Laws of searching and counting. Assumes nothing.
--
-- A search of a run finds nothing exactly when the test fails at each number of it (`seek-none`, `none-seek`); what it finds
-- is the first (`seek-first`). `any-true`, `true-any` and `false-any`, `any_false` say the same of `any`, `among-..` of a list.
use Rattle.std.specs.Prelude.{ℕ, zero, suc, ◌+◌, ◌≤◌, ◌<◌, ◌≡◌, refl, Bool, true, false, ◌&&◌, ◌||◌, ◌⊎◌, ◌≢◌, List, [], ◌∷◌, eqb, length, get_or}
use Rattle.std.proofs.Common.{sym, ap, ◌∙◌, inl, inr, ⊎_elim, arith, eqb-true, eq-eqb, ne_eqb}
use Rattle.std.proofs.Math.Decide.{ℕ_discrete}
use Rattle.std.proofs.lemmas.Bool.{eqb-false}
use Rattle.scan.specs.Scan.{Spot, nowhere, at, pick, found, seek, any, count, among, has}

-- ---- truth

pub true-or : (b : Bool) → (b ≡ true) ⊎ (b ≡ false)
true-or true = inl refl
true-or false = inr refl

pub true-false : {b : Bool} → b ≡ true → b ≡ false → ⊥
true-false p q = let z : ◌≡◌ {A = ℕ} 0 1 = sym (ap number q) ∙ ap number p in absurd (omega arith)
  where
    number : Bool → ℕ
    number true = 1
    number false = 0

pub not-true : {b : Bool} → (b ≡ true → ⊥) → b ≡ false
not-true {b} h = ⊎_elim (λ t. absurd (h t)) (λ f. f) (true-or b)

-- two tests that follow from each other
pub tests_same : (a b : Bool) → (a ≡ true → b ≡ true) → (b ≡ true → a ≡ true) → a ≡ b
tests_same true b f g = sym (f refl)
tests_same false true f g = g refl
tests_same false false f g = refl

pub both_true : (a b : Bool) → (a && b) ≡ true → (a ≡ true) × (b ≡ true)
both_true true b e = (refl, e)
both_true false b e = absurd (true-false e refl)

pub either_true : (a b : Bool) → (a || b) ≡ true → (a ≡ true) ⊎ (b ≡ true)
either_true true b e = inl refl
either_true false b e = inr e

pub first-true : (a b : Bool) → a ≡ true → (a || b) ≡ true
first-true a b e = ap (λ (x : Bool). x || b) e

pub second-true : (a b : Bool) → b ≡ true → (a || b) ≡ true
second-true true b e = refl
second-true false b e = e

-- ---- seek

pub found_at : {s : Spot} → found s ≡ true → (i : ℕ) × (s ≡ at i)
found_at {s} e = go s e
  where
    go : (s : Spot) → found s ≡ true → (i : ℕ) × (s ≡ at i)
    go nowhere e = absurd (true-false e refl)
    go (at i) e = (i, refl)

pub nowhere_at : {s : Spot} {i : ℕ} → s ≡ nowhere → s ≡ at i → ⊥
nowhere_at p q = true-false (ap found q) (ap found p)

pub not_found : {s : Spot} → found s ≡ false → s ≡ nowhere
not_found {s} e = go s e
  where
    go : (s : Spot) → found s ≡ false → s ≡ nowhere
    go nowhere e = refl
    go (at i) e = absurd (true-false refl e)

seek-here : (test : ℕ → Bool) (i n : ℕ) → test i ≡ true → seek test i (suc n) ≡ at i
unfolding seek
seek-here test i n e = ap (λ (b : Bool). pick b (at i) (seek test (suc i) n)) e

seek-on : (test : ℕ → Bool) (i n : ℕ) → test i ≡ false → seek test i (suc n) ≡ seek test (suc i) n
unfolding seek
seek-on test i n e = ap (λ (b : Bool). pick b (at i) (seek test (suc i) n)) e

pub none-seek : (test : ℕ → Bool) (i n : ℕ) → ((j : ℕ) → i ≤ j → j < i + n → test j ≡ false) → seek test i n ≡ nowhere
unfolding seek
none-seek test i zero h = refl
none-seek test i (suc n) h = seek-on test i n (h i (omega arith) (omega arith)) ∙ none-seek test (suc i) n (λ j l g. h j (omega arith) (omega arith))

-- what a search finds: the first number of the run at which the test holds
pub record First (test : ℕ → Bool) (i n j : ℕ) : Type 0 where
  pub from : i ≤ j
  pub within : j < i + n
  pub holds : test j ≡ true
  pub before : (k : ℕ) → i ≤ k → k < j → test k ≡ false

pub first-seek : (test : ℕ → Bool) (i n j : ℕ) → First test i n j → seek test i n ≡ at j
first-seek test i zero j f = absurd (omega (arith, f.from, f.within))
first-seek test i (suc n) j f = go (ℕ_discrete i j) (λ g. first-seek test (suc i) n j g)
  where
    go : Dec (i ≡ j) → (First test (suc i) n j → seek test (suc i) n ≡ at j) → seek test i (suc n) ≡ at j
    go (yes e) rest = seek-here test i n (ap test e ∙ f.holds) ∙ ap at e
    go (no ne) rest =
        seek-on test i n (f.before i (omega arith) (omega (arith, f.from)))
        ∙ rest (record {
          from = omega (arith, f.from);
          within = omega (arith, f.within);
          holds = f.holds;
          before = λ k l g. f.before k (omega arith) g;
        })

pub seek-first : (test : ℕ → Bool) (i n j : ℕ) → seek test i n ≡ at j → First test i n j
unfolding seek
seek-first test i zero j e = absurd (nowhere_at refl e)
seek-first test i (suc n) j e = go (true-or (test i)) (λ g. seek-first test (suc i) n j g)
  where
    at_inj : {a b : ℕ} → at a ≡ at b → a ≡ b
    at_inj p = cc

    go : (test i ≡ true) ⊎ (test i ≡ false) → (seek test (suc i) n ≡ at j → First test (suc i) n j) → First test i (suc n) j
    go (inl t) rest =
        let same : i ≡ j = at_inj (sym (seek-here test i n t) ∙ e) in
        record { from = omega arith; within = omega arith; holds = sym (ap test same) ∙ t; before = λ k l g. absurd (omega arith) }
    go (inr f) rest =
        let r = rest (sym (seek-on test i n f) ∙ e) in
        record {
          from = omega (arith, r.from);
          within = omega (arith, r.within);
          holds = r.holds;
          before = λ k l g. earlier k l g r.before (ℕ_discrete i k);
        }
      where
        earlier : (k : ℕ) → i ≤ k → k < j → ((c : ℕ) → suc i ≤ c → c < j → test c ≡ false) → Dec (i ≡ k) → test k ≡ false
        earlier k l g b (yes e) = sym (ap test e) ∙ f
        earlier k l g b (no ne) = b k (omega arith) g

pub seek-none : (test : ℕ → Bool) (i n : ℕ) → seek test i n ≡ nowhere → (j : ℕ) → i ≤ j → j < i + n → test j ≡ false
seek-none test i zero e j l g = absurd (omega arith)
seek-none test i (suc n) e j l g = go (true-or (test i)) (ℕ_discrete i j) (λ p. seek-none test (suc i) n p j)
  where
    go : (test i ≡ true) ⊎ (test i ≡ false) → Dec (i ≡ j) → (seek test (suc i) n ≡ nowhere → suc i ≤ j → j < suc i + n → test j ≡ false) → test j ≡ false
    go (inl t) d rest = absurd (nowhere_at e (seek-here test i n t))
    go (inr f) (yes p) rest = sym (ap test p) ∙ f
    go (inr f) (no ne) rest = rest (sym (seek-on test i n f) ∙ e) (omega arith) (omega arith)

-- two tests that agree on the run find the same
pub seek-same : (p q : ℕ → Bool) (i n : ℕ) → ((j : ℕ) → i ≤ j → j < i + n → p j ≡ q j) → seek p i n ≡ seek q i n
unfolding seek
seek-same p q i zero h = refl
seek-same p q i (suc n) h =
    ap (λ (b : Bool). pick b (at i) (seek p (suc i) n)) (h i (omega arith) (omega arith))
    ∙ ap (pick (q i) (at i)) (seek-same p q (suc i) n (λ j l g. h j (omega arith) (omega arith)))

-- ---- a search by a loop

-- the loop that seeks in the n numbers from i on has come to j: the test failed at each number before it
pub record Passed (test : ℕ → Bool) (i n j : ℕ) : Type 0 where
  pub from : i ≤ j
  pub within : j ≤ i + n
  pub fails : (k : ℕ) → i ≤ k → k < j → test k ≡ false

pub passed_start : (test : ℕ → Bool) (i n : ℕ) → Passed test i n i
passed_start test i n = record { from = omega arith; within = omega arith; fails = λ k l g. absurd (omega arith) }

pub passed_more : {test : ℕ → Bool} {i n j : ℕ} → Passed test i n j → j < i + n → test j ≡ false → Passed test i n (j + 1)
passed_more {test} {i} {n} {j} v l f = record { from = omega (arith, v.from); within = omega arith; fails = λ k a b. go k a b (ℕ_discrete k j) }
  where
    go : (k : ℕ) → i ≤ k → k < j + 1 → Dec (k ≡ j) → test k ≡ false
    go k a b (yes e) = ap test e ∙ f
    go k a b (no ne) = v.fails k a (omega arith)

pub passed_at : {test : ℕ → Bool} {i n j : ℕ} → Passed test i n j → j < i + n → test j ≡ true → seek test i n ≡ at j
passed_at {test} {i} {n} {j} v l t = first-seek test i n j (record { from = v.from; within = l; holds = t; before = v.fails })

pub passed_all : {test : ℕ → Bool} {i n j : ℕ} → Passed test i n j → i + n ≤ j → seek test i n ≡ nowhere
passed_all {test} {i} {n} {j} v l = none-seek test i n (λ k a b. v.fails k a (omega arith))

-- ---- any

pub any-true : (test : ℕ → Bool) (i n : ℕ) → any test i n ≡ true → (j : ℕ) × (i ≤ j) × (j < i + n) × (test j ≡ true)
unfolding any
any-true test i n e =
    let r = found_at e in
    let f = seek-first test i n r.0 r.1 in
    (r.0, f.from, f.within, f.holds)

pub any_false : (test : ℕ → Bool) (i n : ℕ) → any test i n ≡ false → (j : ℕ) → i ≤ j → j < i + n → test j ≡ false
unfolding any
any_false test i n e = seek-none test i n (not_found e)

pub false-any : (test : ℕ → Bool) (i n : ℕ) → ((j : ℕ) → i ≤ j → j < i + n → test j ≡ false) → any test i n ≡ false
unfolding any
false-any test i n h = ap found (none-seek test i n h)

pub true-any : (test : ℕ → Bool) (i n j : ℕ) → i ≤ j → j < i + n → test j ≡ true → any test i n ≡ true
true-any test i n j l g t = ⊎_elim (λ y. y) (λ f. absurd (true-false t (any_false test i n f j l g))) (true-or (any test i n))

-- ---- among, has

pub among-true : (l : List ℕ) (i n x : ℕ) → among l i n x ≡ true → (j : ℕ) × (i ≤ j) × (j < i + n) × (get_or l j 0 ≡ x)
unfolding among
among-true l i n x e =
    let r = any-true (λ j. eqb (get_or l j 0) x) i n e in
    (r.0, r.1, r.2, eqb-true (get_or l r.0 0) x r.3)

pub among-false : (l : List ℕ) (i n x : ℕ) → among l i n x ≡ false → (j : ℕ) → i ≤ j → j < i + n → get_or l j 0 ≢ x
unfolding among
among-false l i n x e j h g = eqb-false (get_or l j 0) x (any_false (λ j. eqb (get_or l j 0) x) i n e j h g)

pub false-among : (l : List ℕ) (i n x : ℕ) → ((j : ℕ) → i ≤ j → j < i + n → get_or l j 0 ≢ x) → among l i n x ≡ false
unfolding among
false-among l i n x h = false-any (λ j. eqb (get_or l j 0) x) i n (λ j a b. ne_eqb (get_or l j 0) x (h j a b))

pub true-among : (l : List ℕ) (i n x j : ℕ) → i ≤ j → j < i + n → get_or l j 0 ≡ x → among l i n x ≡ true
unfolding among
true-among l i n x j a b e = true-any (λ j. eqb (get_or l j 0) x) i n j a b (eq-eqb (get_or l j 0) x e)

pub has-true : (l : List ℕ) (x : ℕ) → has l x ≡ true → (j : ℕ) × (j < length l) × (get_or l j 0 ≡ x)
unfolding has
has-true l x e = let r = among-true l 0 (length l) x e in (r.0, omega (arith, r.2), r.3)

pub true-has : (l : List ℕ) (x j : ℕ) → j < length l → get_or l j 0 ≡ x → has l x ≡ true
unfolding has
true-has l x j h e = true-among l 0 (length l) x j (omega arith) (omega arith) e

pub has-cons : (y : ℕ) (l : List ℕ) (x : ℕ) → has (y ∷ l) x ≡ true → (y ≡ x) ⊎ (has l x ≡ true)
has-cons y l x e = let r = has-true (y ∷ l) x e in go r.0 r.1 r.2
  where
    go : (j : ℕ) → j < suc (length l) → get_or (y ∷ l) j 0 ≡ x → (y ≡ x) ⊎ (has l x ≡ true)
    go zero h e = inl e
    go (suc j) h e = inr (true-has l x j (omega arith) e)

pub has_first : (y : ℕ) (l : List ℕ) → has (y ∷ l) y ≡ true
has_first y l = true-has (y ∷ l) y 0 (omega arith) refl

pub has_rest : (y : ℕ) (l : List ℕ) (x : ℕ) → has l x ≡ true → has (y ∷ l) x ≡ true
has_rest y l x e = let r = has-true l x e in true-has (y ∷ l) x (suc r.0) (omega (arith, r.1)) r.2

pub has-none : (x : ℕ) → has [] x ≡ false
has-none x = not-true (λ e. let r = has-true [] x e in omega (arith, r.1))

-- ---- count

pub count-on : (p : ℕ → Bool) (n : ℕ) → p n ≡ true → count p (suc n) ≡ suc (count p n)
unfolding count
count-on p n e = ap (λ (b : Bool). pick b (suc (count p n)) (count p n)) e

pub count_off : (p : ℕ → Bool) (n : ℕ) → p n ≡ false → count p (suc n) ≡ count p n
unfolding count
count_off p n e = ap (λ (b : Bool). pick b (suc (count p n)) (count p n)) e

pub count_none : (p : ℕ → Bool) → count p 0 ≡ 0
unfolding count
count_none p = refl

pub count_never : (p : ℕ → Bool) (n : ℕ) → ((i : ℕ) → i < n → p i ≡ false) → count p n ≡ 0
count_never p zero h = count_none p
count_never p (suc n) h = count_off p n (h n (omega arith)) ∙ count_never p n (λ i l. h i (omega arith))

-- a test that implies another holds at no more numbers
pub count_implied : (p q : ℕ → Bool) (n : ℕ) → ((i : ℕ) → i < n → p i ≡ true → q i ≡ true) → count p n ≤ count q n
count_implied p q zero h = omega (arith, count_none p, count_none q)
count_implied p q (suc n) h = go (true-or (p n)) (true-or (q n)) (count_implied p q n (λ i l. h i (omega arith)))
  where
    go : (p n ≡ true) ⊎ (p n ≡ false) → (q n ≡ true) ⊎ (q n ≡ false) → count p n ≤ count q n → count p (suc n) ≤ count q (suc n)
    go (inl a) (inl b) r = omega (arith, count-on p n a, count-on q n b)
    go (inl a) (inr b) r = absurd (true-false (h n (omega arith) a) b)
    go (inr a) (inl b) r = omega (arith, count_off p n a, count-on q n b)
    go (inr a) (inr b) r = omega (arith, count_off p n a, count_off q n b)

-- a test that implies another but at x holds at one number more at most
pub count_but_one : (p q : ℕ → Bool) (n x : ℕ) → ((i : ℕ) → i < n → i ≢ x → p i ≡ true → q i ≡ true) → count p n ≤ count q n + 1
count_but_one p q zero x h = omega (arith, count_none p)
count_but_one p q (suc n) x h = go (true-or (p n)) (true-or (q n)) (ℕ_discrete n x) (count_but_one p q n x (λ i l. h i (omega arith)))
  where
    go : (p n ≡ true) ⊎ (p n ≡ false) → (q n ≡ true) ⊎ (q n ≡ false) → Dec (n ≡ x) → count p n ≤ count q n + 1 → count p (suc n) ≤ count q (suc n) + 1
    go (inl a) (inl b) d r = omega (arith, count-on p n a, count-on q n b)
    go (inl a) (inr b) (no ne) r = absurd (true-false (h n (omega arith) ne a) b)
    go (inl a) (inr b) (yes e) r = omega (arith, count-on p n a, count_off q n b, count_implied p q n (λ i l t. h i (omega arith) (λ z. omega arith) t))
    go (inr a) (inl b) d r = omega (arith, count_off p n a, count-on q n b)
    go (inr a) (inr b) d r = omega (arith, count_off p n a, count_off q n b)

-- what holds and what does not are all
pub count-not : (p q : ℕ → Bool) (n : ℕ) → ((i : ℕ) → i < n → p i ≡ true → q i ≡ false) → ((i : ℕ) → i < n → p i ≡ false → q i ≡ true) → count p n + count q n ≡ n
count-not p q zero t f = omega (arith, count_none p, count_none q)
count-not p q (suc n) t f = go (true-or (p n)) (count-not p q n (λ i l. t i (omega arith)) (λ i l. f i (omega arith)))
  where
    go : (p n ≡ true) ⊎ (p n ≡ false) → count p n + count q n ≡ n → count p (suc n) + count q (suc n) ≡ suc n
    go (inl a) r = omega (arith, count-on p n a, count_off q n (t n (omega arith) a))
    go (inr a) r = omega (arith, count_off p n a, count-on q n (f n (omega arith) a))

-- a test that implies one of two others holds at no more numbers than both together
pub count_either : (r p q : ℕ → Bool) (n : ℕ) → ((i : ℕ) → i < n → r i ≡ true → (p i ≡ true) ⊎ (q i ≡ true)) → count r n ≤ count p n + count q n
count_either r p q zero h = omega (arith, count_none r)
count_either r p q (suc n) h = go (true-or (r n)) (count_either r p q n (λ i l. h i (omega arith)))
  where
    least : (t : ℕ → Bool) → count t n ≤ count t (suc n)
    least t = ⊎_elim (λ a. omega (arith, count-on t n a)) (λ a. omega (arith, count_off t n a)) (true-or (t n))

    go : (r n ≡ true) ⊎ (r n ≡ false) → count r n ≤ count p n + count q n → count r (suc n) ≤ count p (suc n) + count q (suc n)
    go (inl t) e =
        ⊎_elim (λ a. omega (arith, count-on r n t, count-on p n a, least q)) (λ a. omega (arith, count-on r n t, count-on q n a, least p)) (h n (omega arith) t)
    go (inr f) e = omega (arith, count_off r n f, least p, least q)
