-- A column being filled from its front, a place a turn (`Filling`), and the tests and counts of the loops that fill one; what code has of one path (`stopped-told`,
-- `whole-told`). Assumes nothing.
use Rattle.std.specs.Prelude.{ℕ, zero, suc, ◌+◌, ◌-◌, ◌≤◌, ◌<◌, ◌≡◌, refl, Bool, true, false, ◌||◌, List, [], ◌∷◌, ◌++◌, length, take, drop, set, get_or}
use Rattle.std.proofs.Common.{sym, ◌∙◌, append_assoc, add-one, arith, length-set, length-drop, length-append, take-suc, drop-cons}
use Rattle.std.proofs.Math.Path.{ap, ap₂}
use Rattle.std.proofs.Math.Bool.{not}
use Rattle.std.proofs.Math.Decide.{ℕ_discrete}
use Rattle.std.proofs.Math.Seq.{take-length}
use Rattle.std.proofs.Math.ListN.{get_or-append}
use Rattle.std.proofs.lemmas.List.{set_at, get_or_at}
use mir.Val.{bool_byte}
use Rattle.marks.specs.Marks.{marked}
use Rattle.scan.specs.Scan.{pick, any, count, has}
use Rattle.scan.specs.Laws.{true-false, not-true, first-true}
use Rattle.paths.specs.Fan.{relay, hops}
use Rattle.paths.specs.Whole.{Failed, failed, pair, cut, stops, severs, broken, whole}
use Rattle.columns.specs.Says.{ahead, marks}

-- the first i places of `out` hold `column`, the others what was there
pub record Filling {A : Type 0} (column : List A) (i : ℕ) (was out : List A) : Type 0 where
  pub holds : out ≡ ahead i column was
  pub size : length column ≡ i
  pub long : length out ≡ length was

pub filling_starts : {A : Type 0} (was : List A) → Filling [] 0 was was
filling_starts was = record { holds = refl; size = refl; long = refl }

put_next : {A : Type 0} (column was : List A) (i : ℕ) (v : A) → length column ≡ i → i < length was → set (ahead i column was) i v ≡ ahead (i + 1) (column ++ (v ∷ [])) was
put_next column was i v e h = rw (drop-cons was i v) (rw (set_at column _ _ _ i e) (simp (add-one, append_assoc)))

pub filling_more : {A : Type 0} {column was out : List A} {i : ℕ} (v : A) → Filling column i was out → i < length was → Filling (column ++ (v ∷ [])) (i + 1) was (set out i v)
filling_more {A} {column} {was} {out} {i} v f h = record {
  holds = ap (λ (l : List A). set l i v) f.holds ∙ put_next column was i v f.size h;
  size = simp length-append (omega (arith, f.size));
  long = simp length-set f.long;
}

-- ---- a copied column

-- one value more
pub copied_next : {A : Type 0} (from : List A) (v : A) {was out : List A} {i : ℕ} → v ≡ get_or from i v → Filling (take i from) i was out → i < length was → i < length from
    → Filling (take (i + 1) from) (i + 1) was (set out i v)
copied_next from v {was} {out} {i} e f h l =
    let more : take (i + 1) from ≡ take i from ++ (v ∷ []) = rw add-one (take-suc from i v l ∙ ap (λ x. take i from ++ (x ∷ [])) (sym e)) in
    rw more (filling_more v f h)

-- the same of numbers
pub copied_more : (from : List ℕ) {was out : List ℕ} {i : ℕ} → Filling (take i from) i was out → i < length was → i < length from
    → Filling (take (i + 1) from) (i + 1) was (set out i (get_or from i 0))
copied_more from {was} {out} {i} f h l =
    let more : take (i + 1) from ≡ take i from ++ (get_or from i 0 ∷ []) = rw add-one (take-suc from i 0 l) in
    rw more (filling_more (get_or from i 0) f h)

-- ---- a column of marks

marks-more : (test : ℕ → Bool) (i : ℕ) → marks test (i + 1) ≡ marks test i ++ (pick (test i) 1 0 ∷ [])
unfolding marks
marks-more test i = simp add-one

pub marks-length : (test : ℕ → Bool) (n : ℕ) → length (marks test n) ≡ n
unfolding marks
marks-length test zero = refl
marks-length test (suc n) = simp length-append (omega (arith, marks-length test n))

-- the mark of each path is 1 where the test holds and else 0
pub marks-at : (test : ℕ → Bool) (n i : ℕ) → i < n → get_or (marks test n) i 0 ≡ pick (test i) 1 0
unfolding marks
marks-at test zero i h = absurd (omega arith)
marks-at test (suc n) i h = go (ℕ_discrete i n) (λ l. marks-at test n i l)
  where
    go : Dec (i ≡ n) → (i < n → get_or (marks test n) i 0 ≡ pick (test i) 1 0) → get_or (marks test n ++ (pick (test n) 1 0 ∷ [])) i 0 ≡ pick (test i) 1 0
    go (yes e) rest =
        get_or_at (marks test n) (pick (test n) 1 0) [] 0 i (marks-length test n ∙ sym e) ∙ ap (λ (j : ℕ). pick (test j) 1 0) (sym e)
    go (no ne) rest = get_or-append (marks test n) (pick (test n) 1 0 ∷ []) 0 i (omega (arith, marks-length test n)) ∙ rest (omega arith)

pub marked_start : (test : ℕ → Bool) (was : List ℕ) → Filling (marks test 0) 0 was was
unfolding marks
marked_start test was = filling_starts was

pub marked_more : (test : ℕ → Bool) {was out : List ℕ} {i v : ℕ} → Filling (marks test i) i was out → i < length was → v ≡ pick (test i) 1 0
    → Filling (marks test (i + 1)) (i + 1) was (set out i v)
marked_more test {was} {out} {i} {v} f h e = rw (marks-more test i) (rw (sym e) (filling_more v f h))

-- the library's number of a yes or a no
pub flag-is : (b : Bool) → bool_byte b ≡ pick b 1 0
flag-is true = refl
flag-is false = refl

-- how many were counted
pub count-start : (test : ℕ → Bool) → 0 ≡ count test 0
unfolding count
count-start test = refl

pub count-more : (test : ℕ → Bool) (i : ℕ) {n v : ℕ} → n ≡ count test i → v ≡ pick (test i) 1 0 → n + v ≡ count test (i + 1)
unfolding count
count-more test i {n} {v} p q = ap (λ (x : ℕ). n + x) q ∙ go (test i) ∙ sym (ap (count test) (add-one i))
  where
    go : (b : Bool) → n + pick b 1 0 ≡ pick b (suc (count test i)) (count test i)
    go true = omega arith
    go false = omega arith

-- no more than were looked at
pub count_most : (test : ℕ → Bool) (i : ℕ) → count test i ≤ i
unfolding count
count_most test zero = omega arith
count_most test (suc i) = go (test i) (count_most test i)
  where
    go : (b : Bool) → count test i ≤ i → pick b (suc (count test i)) (count test i) ≤ suc i
    go true r = omega arith
    go false r = omega arith

-- ---- one path

-- what would have its mark and has none has not failed
pub unstruck : (hit : List ℕ) {t b : Bool} {x y : ℕ} → (t ≡ true → marked hit y ≡ true) → x ≡ y → b ≡ marked hit x → b ≡ false → false ≡ t
unstruck hit h e m f = sym (not-true (λ a. true-false (h a) (ap (marked hit) (sym e) ∙ sym m ∙ f)))

-- what code has of a relay, and of whether it stands in the list
pub stop_told : (w : ℕ) (places : List ℕ) (fails : Failed) (i p : ℕ) {x : ℕ} {r b : Bool} → x ≡ relay w places i p
    → r ≡ has fails.stopped x → r ≡ b → stops w places fails i p ≡ b
unfolding stops
stop_told w places fails i p e f g = ap (has fails.stopped) (sym e) ∙ sym f ∙ g

-- what code has of two relays, and of whether they are a cut link
pub cut-told : (w : ℕ) (places : List ℕ) (fails : Failed) (i p : ℕ) {u v : ℕ} {r b : Bool} → u ≡ relay w places i p → v ≡ relay w places i (p + 1)
    → r ≡ cut fails.cuts u v → r ≡ b → severs w places fails i p ≡ b
unfolding severs
cut-told w places fails i p d e f g = ap₂ (cut fails.cuts) (sym d) (sym e) ∙ sym f ∙ g

-- the cuts from place j on: the pair there, and those after it; nothing where no pair is left
pub cut-next : (cuts : List ℕ) (u v j : ℕ) → j + 2 ≤ length cuts → cut (drop j cuts) u v ≡ (pair (get_or cuts j 0) (get_or cuts (j + 1) 0) u v || cut (drop (j + 2) cuts) u v)
unfolding cut
cut-next cuts u v j h =
    let one : suc j ≡ j + 1 = omega arith in
    let two : suc (j + 1) ≡ j + 2 = omega arith in
    let rest = ap (λ (i : ℕ). drop i cuts) one ∙ drop-cons cuts (j + 1) 0 (omega arith) ∙ ap (λ (i : ℕ). get_or cuts (j + 1) 0 ∷ drop i cuts) two in
    ap (λ (l : List ℕ). cut l u v) (drop-cons cuts j 0 (omega arith) ∙ ap (λ (l : List ℕ). get_or cuts j 0 ∷ l) rest)

pub cut-here : (l : List ℕ) (u v : ℕ) {b : Bool} → 2 ≤ length l → b ≡ pair (get_or l 0 0) (get_or l 1 0) u v → b ≡ true → true ≡ cut l u v
cut-here l u v {b} h e t =
    sym (cut-next l u v 0 h ∙ ap (λ (x : Bool). x || cut (drop 2 l) u v) (sym e) ∙ first-true b (cut (drop 2 l) u v) t)

pub cut-later : (l : List ℕ) (u v : ℕ) {b : Bool} → 2 ≤ length l → b ≡ pair (get_or l 0 0) (get_or l 1 0) u v → b ≡ false
    → cut (take (length l - 2) (drop 2 l)) u v ≡ cut l u v
cut-later l u v h e f =
    let all : length l - 2 ≡ length (drop 2 l) = sym (length-drop 2 l) in
    ap (λ (n : ℕ). cut (take n (drop 2 l)) u v) all
    ∙ ap (λ (r : List ℕ). cut r u v) (take-length (drop 2 l))
    ∙ sym (cut-next l u v 0 h ∙ ap (λ (x : Bool). x || cut (drop 2 l) u v) (sym e ∙ f))

pub cut-none : (cuts : List ℕ) (u v j : ℕ) → length cuts ≤ j + 1 → cut (drop j cuts) u v ≡ false
unfolding cut
cut-none cuts u v j h = go (drop j cuts) (omega (arith, length-drop j cuts))
  where
    go : (l : List ℕ) → length l ≤ 1 → cut l u v ≡ false
    go [] g = refl
    go (a ∷ []) g = refl
    go (a ∷ b ∷ l) g = absurd (omega arith)

module _ (w : ℕ) (places counts stopped cuts : List ℕ) (i : ℕ) {x : Bool} (e : x ≡ any (stops w places (failed stopped []) i) 0 (hops counts i + 1)) where
  pub stopped-told : x ≡ true → false ≡ whole w places counts (failed stopped cuts) i
  unfolding whole broken stops
  stopped-told t = ap not (sym (first-true _ (any (severs w places (failed stopped cuts) i) 0 (hops counts i)) (sym e ∙ t)))

  pub whole-told : {y : Bool} → x ≡ false → y ≡ any (severs w places (failed [] cuts) i) 0 (hops counts i) → not y ≡ whole w places counts (failed stopped cuts) i
  unfolding whole broken stops severs
  whole-told f g = ap₂ (λ (a b : Bool). not (a || b)) (sym f ∙ e) g
