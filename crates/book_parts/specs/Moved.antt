-- Numbers of a list written one after another into another (`Copied`); a place opened in the first n numbers of a list (`opened`), and one closed (`closed`); and how the library's methods write them (`opened_by`, `closed_by`, `part_put`). Assumes nothing.
use Prim.Native.Nat.{ℕ, zero, suc, ◌+◌, ◌-◌, ◌≤◌, ◌<◌}
use Rattle.std.specs.Prelude.{◌≡◌, refl, get_or, set, drop}
use Rattle.std.proofs.Common.{sym, ◌∙◌, add-one, length-set, length-append, length-take, length-drop, take-suc, take_all, take-take, drop-drop, get_or-drop, get_or-take, get_or-set_other}
use Rattle.std.proofs.Math.Path.{ap, ap₂}
use mathlib.Core.List.{List, [], ◌∷◌, ◌++◌, append_assoc}
use native.Mathlib.Omega.{arith}
use Rattle.std.proofs.Math.ListN.{length, take}
use Rattle.std.proofs.lemmas.List.Edits.{sets, sets-eq}
use Rattle.std.proofs.Math.Seq.{paste, set_comm, length-sets, take_at, length-take-le}
use Rattle.scan.specs.Runs.{sets_append}
use borrow.Rule.Slice.PartMut.{put_mid}

-- x at place i of the first n numbers: those from i on stand one place further
unfoldable pub opened : (l : List ℕ) (i n x : ℕ) → List ℕ
opened l i n x = sets l i (x ∷ take (n - i) (drop i l))

-- place i taken out of the first n: those after it stand one place nearer, and place n - 1 is as it was
unfoldable pub closed : (l : List ℕ) (i n : ℕ) → List ℕ
closed l i n = sets l i (take (n - 1 - i) (drop (suc i) l))

-- ---- written by a loop, number by number

-- q numbers of w are written from the place `to` on
pub record Copied (w : List ℕ) (to : ℕ) (was is : List ℕ) (q : ℕ) : Type 0 where
  pub within : q ≤ length w
  pub long : length is ≡ length was
  pub wrote : is ≡ sets was to (take q w)

pub copied_none : (w : List ℕ) (to : ℕ) (l : List ℕ) → Copied w to l l 0
copied_none w to l = record { within = omega arith; long = refl; wrote = refl }

sets_later : (vs l : List ℕ) (i j : ℕ) → i + length vs ≤ j → get_or (sets l i vs) j 0 ≡ get_or l j 0
sets_later [] l i j h = refl
sets_later (v ∷ vs) l i j h = sets_later vs (set l i v) (suc i) j (omega arith) ∙ get_or-set_other l i j v 0 (λ e. omega arith)

module _ {w : List ℕ} {to : ℕ} {was is : List ℕ} {q : ℕ} (c : Copied w to was is q) where
  taken : length (take q w) ≡ q
  taken = length-take-le q w c.within

  -- what is not written yet is as it was
  pub copied_ahead : (j : ℕ) → to + q ≤ j → get_or is j 0 ≡ get_or was j 0
  copied_ahead j h = ap (λ (l : List ℕ). get_or l j 0) c.wrote ∙ sets_later (take q w) was to j (omega (arith, taken))

  pub copied_more : {y : ℕ} → q < length w → y ≡ get_or w q 0 → Copied w to was (set is (to + q) y) (q + 1)
  copied_more {y} h e = record {
    within = omega arith;
    long = length-set is (to + q) y ∙ c.long;
    wrote =
        ap₂ (λ (o : List ℕ) (v : ℕ). set o (to + q) v) c.wrote e
        ∙ ap (λ (k : ℕ). set (sets was to (take q w)) (to + k) (get_or w q 0)) (sym taken)
        ∙ sym (sets_append was to (take q w) (get_or w q 0 ∷ []))
        ∙ ap (sets was to) (sym (take-suc w q 0 h) ∙ ap (λ (k : ℕ). take k w) (sym (add-one q)));
  }

  pub copied_all : length w ≤ q → is ≡ sets was to w
  copied_all h = c.wrote ∙ ap (sets was to) (take_all q w h)

-- ---- how the library's methods write them

-- the first n numbers of s copied to the place `at`
pub pasted : (l : List ℕ) (at : ℕ) (s : List ℕ) (n : ℕ) → n ≤ length s → at + n ≤ length l → paste l at s n ≡ sets l at (take n s)
pasted l at s n h g =
    ap (λ (k : ℕ). take at l ++ take n s ++ drop (at + k) l) (sym (length-take-le n s h)) ∙ sym (sets-eq (take n s) l at (omega (arith, length-take-le n s h)))

-- a part of a list, put in its place
pub part_put : (l part : List ℕ) (from k : ℕ) → length part ≡ k → from + k ≤ length l → put_mid from k l part ≡ sets l from part
part_put l part from k e h =
    ap (λ (m : List ℕ). take from l ++ (part ++ m)) (drop-drop k from l ∙ ap (λ (n : ℕ). drop (from + n) l) (sym e))
    ∙ sym (append_assoc (take from l) part (drop (from + length part) l))
    ∙ sym (sets-eq part l from (omega arith))

-- a number before those that are written is written first or last
sets_set : (vs l : List ℕ) (i j x : ℕ) → j < i → set (sets l i vs) j x ≡ sets (set l j x) i vs
sets_set [] l i j x h = refl
sets_set (v ∷ vs) l i j x h = sets_set vs (set l i v) (suc i) j x (omega arith) ∙ ap (λ (m : List ℕ). sets m (suc i) vs) (set_comm l i j v x (λ e. omega arith))

pub opened_by : (l : List ℕ) (i n x : ℕ) → i ≤ n → n < length l → set (paste l (i + 1) (drop i l) (n - i)) i x ≡ opened l i n x
unfolding opened
opened_by l i n x h g =
    ap (λ (m : List ℕ). set m i x) (pasted l (i + 1) (drop i l) (n - i) (omega (arith, length-drop i l)) (omega arith))
    ∙ sets_set (take (n - i) (drop i l)) l (i + 1) i x (omega arith)
    ∙ ap (λ (k : ℕ). sets (set l i x) k (take (n - i) (drop i l))) (add-one i)

pub closed_by : (l : List ℕ) (i n : ℕ) → i < n → n ≤ length l → paste l i (drop (i + 1) l) (n - (i + 1)) ≡ closed l i n
unfolding closed
closed_by l i n h g =
    pasted l i (drop (i + 1) l) (n - (i + 1)) (omega (arith, length-drop (i + 1) l)) (omega arith)
    ∙ ap₂ (λ (k m : ℕ). sets l i (take k (drop m l))) (omega arith) (add-one i)

-- ---- what stands in the first numbers afterwards

module _ (l : List ℕ) (i n : ℕ) where
  -- what is written to open a place, number by number
  abbrev pub opened_run : ℕ → List ℕ
  opened_run x = x ∷ take (n - i) (drop i l)

  pub opened_long : (x : ℕ) → i ≤ n → n ≤ length l → length (opened_run x) ≡ n - i + 1
  opened_long x h g = omega (arith, length-take (n - i) (drop i l), length-drop i l)

  pub opened-next : (x q : ℕ) → q < n - i → get_or (opened_run x) (q + 1) 0 ≡ get_or l (i + q) 0
  opened-next x q h = ap (λ (k : ℕ). get_or (opened_run x) k 0) (add-one q) ∙ get_or-take (n - i) (drop i l) q 0 h ∙ get_or-drop i l q 0

  abbrev pub closed_run : List ℕ
  closed_run = take (n - 1 - i) (drop (suc i) l)

  pub closed_long : i < n → n ≤ length l → length closed_run ≡ n - 1 - i
  closed_long h g = omega (arith, length-take (n - 1 - i) (drop (suc i) l), length-drop (suc i) l)

  pub closed-next : (q : ℕ) → q < n - 1 - i → get_or closed_run q 0 ≡ get_or l (i + q + 1) 0
  closed-next q h = get_or-take (n - 1 - i) (drop (suc i) l) q 0 h ∙ get_or-drop (suc i) l q 0 ∙ ap (λ (k : ℕ). get_or l k 0) (omega arith)

  pub opened-length : (x : ℕ) → length (opened l i n x) ≡ length l
  unfolding opened
  opened-length x = length-sets l i (opened_run x)

  pub closed-length : length (closed l i n) ≡ length l
  unfolding closed
  closed-length = length-sets l i closed_run

  -- the first n, cut at i
  cut_at : i ≤ n → take i (take n l) ≡ take i l
  cut_at h = take-take i n l h

  pub behind : i ≤ n → take (n - i) (drop i l) ≡ drop i (take n l)
  behind h = sym (go i l n h)
    where
      go : (i : ℕ) (l : List ℕ) (n : ℕ) → i ≤ n → drop i (take n l) ≡ take (n - i) (drop i l)
      go zero l n h = let e : n ≡ n - 0 = omega arith in ap (λ (k : ℕ). take k l) e
      go (suc i) l zero h = absurd (omega arith)
      go (suc i) [] (suc n) h = sym (nil (suc n - suc i))
        where
          nil : (k : ℕ) → ◌≡◌ {A = List ℕ} (take k []) []
          nil zero = refl
          nil (suc k) = refl
      go (suc i) (x ∷ l) (suc n) h = let e : n - i ≡ suc n - suc i = omega arith in go i l n (omega arith) ∙ ap (λ (k : ℕ). take k (drop i l)) e

  pub opened-front : (x : ℕ) → i ≤ n → n < length l → take (n + 1) (opened l i n x) ≡ take i (take n l) ++ (x ∷ drop i (take n l))
  unfolding opened
  opened-front x h g =
      let long = opened_long x h (omega arith) in
      ap (take (n + 1)) (sets-eq (opened_run x) l i (omega arith))
      ∙ take_at (take i l ++ opened_run x) (drop (i + length (opened_run x)) l) (n + 1) (length-append (take i l) (opened_run x) ∙ omega (arith, length-take-le i l (omega arith)))
      ∙ ap₂ (λ (a b : List ℕ). a ++ (x ∷ b)) (sym (cut_at h)) (behind h)

module _ (l : List ℕ) (i n : ℕ) where
  pub closed-front : i < n → n ≤ length l → take (n - 1) (closed l i n) ≡ take i (take n l) ++ drop (suc i) (take n l)
  unfolding closed
  closed-front h g =
      let long = closed_long l i n h g in
      let e : n - 1 - i ≡ n - suc i = omega arith in
      ap (take (n - 1)) (sets-eq (closed_run l i n) l i (omega arith))
      ∙ take_at (take i l ++ closed_run l i n) (drop (i + length (closed_run l i n)) l) (n - 1) (length-append (take i l) (closed_run l i n) ∙ omega (arith, length-take-le i l (omega arith)))
      ∙ ap₂ (λ (a b : List ℕ). a ++ b) (sym (cut_at l i n (omega arith))) (ap (λ (k : ℕ). take k (drop (suc i) l)) e ∙ behind l (suc i) n (omega arith))

-- ---- opened and closed by a loop

-- q numbers have moved up, and the next one to be written is carried
pub record Opening (was : List ℕ) (i n x : ℕ) (is : List ℕ) (carry q : ℕ) : Type 0 where
  pub order : i ≤ n
  pub room : n < length was
  pub copied : Copied (opened_run was i n x) i was is q
  pub carried : q ≤ n - i → carry ≡ get_or (opened_run was i n x) q 0

pub opening_starts : (l : List ℕ) (i n x : ℕ) → i ≤ n → n < length l → Opening l i n x l x 0
opening_starts l i n x h g = record { order = h; room = g; copied = copied_none _ i l; carried = λ z. refl }

pub opening-more : {was is : List ℕ} {i n x carry q : ℕ} → Opening was i n x is carry q → q ≤ n - i → Opening was i n x (set is (i + q) carry) (get_or is (i + q) 0) (q + 1)
opening-more {was} {is} {i} {n} {x} {carry} {q} o h = record {
  order = o.order;
  room = o.room;
  copied = copied_more o.copied (omega (arith, opened_long was i n x o.order (omega (arith, o.room)))) (o.carried h);
  carried = λ z. copied_ahead o.copied (i + q) (omega arith) ∙ sym (opened-next was i n x q (omega arith));
}

pub opening-ends : {was is : List ℕ} {i n x carry q : ℕ} → Opening was i n x is carry q → n - i < q → is ≡ opened was i n x
unfolding opened
opening-ends {was} {is} {i} {n} {x} {carry} {q} o h = copied_all o.copied (omega (arith, opened_long was i n x o.order (omega (arith, o.room))))

-- q numbers have moved down
pub record Closing (was : List ℕ) (i n : ℕ) (is : List ℕ) (q : ℕ) : Type 0 where
  pub order : i < n
  pub room : n ≤ length was
  pub copied : Copied (closed_run was i n) i was is q

pub closing_starts : (l : List ℕ) (i n : ℕ) → i < n → n ≤ length l → Closing l i n l 0
closing_starts l i n h g = record { order = h; room = g; copied = copied_none _ i l }

pub closing_more : {was is : List ℕ} {i n q : ℕ} → Closing was i n is q → q < n - 1 - i → Closing was i n (set is (i + q) (get_or is (i + q + 1) 0)) (q + 1)
closing_more {was} {is} {i} {n} {q} o h = record {
  order = o.order;
  room = o.room;
  copied =
      copied_more o.copied (omega (arith, closed_long was i n o.order o.room))
      (copied_ahead o.copied (i + q + 1) (omega arith) ∙ sym (closed-next was i n q h));
}

pub closing_ends : {was is : List ℕ} {i n q : ℕ} → Closing was i n is q → n - 1 - i ≤ q → is ≡ closed was i n
unfolding closed
closing_ends {was} {is} {i} {n} {q} o h = copied_all o.copied (omega (arith, closed_long was i n o.order o.room))
