-- The tables keep the rule: one test, computed over each whole table (`passes`), and one law that makes of it the rule (`tested_rule`). That each entry is the
-- length of a shortest path stands in proofs/Tested.antt. Assumes nothing.
use Rattle.std.specs.Prelude.{ℕ, zero, suc, ◌+◌, ◌≤◌, ◌<◌, ◌≡◌, refl, Bool, true, ◌&&◌, List, [], ◌∷◌, ◌≢◌, eqb, leb, length, get_or}
use Rattle.std.proofs.Common.{sym, ap, ◌∙◌, subst, add-zero, zero-add, add-suc, suc-add, arith, pow_pos, eqb-true, leb-true, ne_eqb}
use Rattle.bits.specs.Bit.{flip}
use Rattle.scan.specs.Scan.{pick, seek, any}
use Rattle.scan.specs.Laws.{both_true, any-true}
use Rattle.two_parts.specs.Two.{relays, two}
use Rattle.two_parts.specs.Near.{near}
use Rattle.two_parts.proofs.NearLaws.{links}
use Rattle.two_distance.specs.Rule.{Rule}
use Rattle.two_distance.specs.Tables.{table1, table2, table3, words3, table_of, look}

-- ---- a test over a list

-- the test passes at each entry of the list and its place, counted from i
abbrev every : (ℕ → ℕ → Bool) → ℕ → List ℕ → Bool
every test i [] = true
every test i (x ∷ l) = test i x && every test (suc i) l

every-from : (test : ℕ → ℕ → Bool) (l : List ℕ) (i : ℕ) → every test i l ≡ true → (k : ℕ) → k < length l → test (i + k) (get_or l k 0) ≡ true
every-from test [] i t k h = absurd (omega arith)
every-from test (x ∷ l) i t zero h = rw (add-zero i) (both_true (test i x) (every test (suc i) l) t).0
every-from test (x ∷ l) i t (suc k) h =
    subst (λ (j : ℕ). test j (get_or l k 0) ≡ true) (suc-add i k ∙ sym (add-suc i k))
    (every-from test l (suc i) (both_true (test i x) (every test (suc i) l) t).1 k (omega arith))

every-at : (test : ℕ → ℕ → Bool) (l : List ℕ) → every test 0 l ≡ true → (k : ℕ) → k < length l → test k (get_or l k 0) ≡ true
every-at test l t k h = subst (λ (j : ℕ). test j (get_or l k 0) ≡ true) (zero-add k) (every-from test l 0 t k h)

-- the test passes at each number below n
abbrev all : (ℕ → Bool) → ℕ → Bool
all test zero = true
all test (suc n) = all test n && test n

all-at : (test : ℕ → Bool) (n : ℕ) → all test n ≡ true → (i : ℕ) → i < n → test i ≡ true
all-at test zero t i h = absurd (omega arith)
all-at test (suc n) t i h = go (native.Mathlib.Decide.ℕ_discrete i n) (λ l. all-at test n (both_true (all test n) (test n) t).0 i l)
  where
    go : Dec (i ≡ n) → (i < n → test i ≡ true) → test i ≡ true
    go (yes e) rest = ap test e ∙ (both_true (all test n) (test n) t).1
    go (no ne) rest = rest (omega arith)

-- ---- the test of a table: what it asks of relay k, whose entry is x

-- no linked relay has more than one more
abbrev mild : (m : ℕ) (look : ℕ → ℕ) (k x : ℕ) → Bool
mild m look k x = all (λ i. leb (look (near m k i)) (x + 1)) (m + 1)

-- relay 0 has 0, any other a linked relay with one less
abbrev falling : (m : ℕ) (look : ℕ → ℕ) (k x : ℕ) → Bool
falling m look k x = pick (eqb k 0) (eqb x 0) (any (λ i. eqb x (look (near m k i) + 1)) 0 (m + 1))

-- `look` has the same entry, and it is none above `top`
abbrev pub test : (m top : ℕ) (look : ℕ → ℕ) (k x : ℕ) → Bool
test m top look k x = eqb x (look k) && (leb x top && (mild m look k x && falling m look k x))

-- ---- what the test says at each relay

module _ (m top : ℕ) (look : ℕ → ℕ) (table : List ℕ) (long : length table ≡ relays m) (passed : every (test m top look) 0 table ≡ true) where
  abbrev of : ℕ → ℕ
  of k = get_or table k 0

  module _ (k : ℕ) (h : k < relays m) where
    parts : (eqb (of k) (look k) ≡ true) × ((leb (of k) top && (mild m look k (of k) && falling m look k (of k))) ≡ true)
    parts = both_true (eqb (of k) (look k)) _ (every-at (test m top look) table passed k (rw long h))

    more : (leb (of k) top ≡ true) × ((mild m look k (of k) && falling m look k (of k)) ≡ true)
    more = both_true (leb (of k) top) _ parts.1

    last : (mild m look k (of k) ≡ true) × (falling m look k (of k) ≡ true)
    last = both_true (mild m look k (of k)) (falling m look k (of k)) more.1

    looked : get_or table k 0 ≡ look k
    looked = eqb-true (of k) (look k) parts.0

    pub tested_top : get_or table k 0 ≤ top
    tested_top = leb-true (of k) top more.0

    mild-at : (i : ℕ) → i < m + 1 → look (near m k i) ≤ of k + 1
    mild-at i l = leb-true (look (near m k i)) (of k + 1) (all-at (λ i. leb (look (near m k i)) (of k + 1)) (m + 1) last.0 i l)

    falls : k ≢ 0 → (i : ℕ) × (i < m + 1) × (of k ≡ look (near m k i) + 1)
    falls ne =
        let t : any (λ i. eqb (of k) (look (near m k i) + 1)) 0 (m + 1) ≡ true =
        sym (ap (λ (b : Bool). pick b (eqb (of k) 0) (any (λ i. eqb (of k) (look (near m k i) + 1)) 0 (m + 1))) (ne_eqb k 0 ne)) ∙ last.1 in
        let (i, a, b, e) = any-true (λ i. eqb (of k) (look (near m k i) + 1)) 0 (m + 1) t in
        (i, omega (arith, b), eqb-true (of k) (look (near m k i) + 1) e)

  -- the test makes the rule
  pub tested_rule : Rule (two m) (λ k. get_or table k 0)
  tested_rule = record {
    start = eqb-true (of 0) 0 (last 0 (pow_pos _)).1;
    near = λ u v h k l.
        let (i, g, e) = (links m).all u v h k l in
        omega (arith, mild-at u h i g, looked (near m u i) ((links m).below u i h g), ap of e);
    down = λ u h ne.
        let (i, g, e) = falls u h ne in
        let below : near m u i < relays m = (links m).below u i h g in
        (near m u i, below, (links m).linked u i h g, e ∙ ap (λ (x : ℕ). x + 1) (sym (looked (near m u i) below)));
  }

-- ---- the three tables pass it

abbrev pub top : ℕ → ℕ
top zero = 16
top (suc zero) = 4
top (suc (suc zero)) = 8
top (suc (suc (suc m))) = 16

pub passes : (m : ℕ) → 1 ≤ m → m ≤ 3 → (length (table_of m) ≡ relays m) × (every (test m (top m) (look m)) 0 (table_of m) ≡ true)
unfolding table1 table2 table3 words3 look near flip any seek
passes zero h g = absurd (omega arith)
passes (suc zero) h g = (refl, refl)
passes (suc (suc zero)) h g = (refl, refl)
passes (suc (suc (suc zero))) h g = (refl, refl)
passes (suc (suc (suc (suc m)))) h g = absurd (omega arith)
