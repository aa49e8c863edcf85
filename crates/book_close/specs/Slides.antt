-- What the loops that close a book up keep: how many live bytes were counted (`Counting`), which live pieces have moved (`Sliding`), and places of the index (`Following`).
-- Assumes nothing.
use Rattle.std.specs.Prelude.{ℕ, zero, suc, ◌+◌, ◌-◌, ◌*◌, ◌/◌, ◌%◌, ◌≤◌, ◌<◌, min, ◌≡◌, refl, Bool, true, false, not, List, [], ◌∷◌, ◌++◌, map, eqb, length, get_or, set, take, drop}
use Rattle.std.proofs.Common.{sym, ap, ap₂, ◌∙◌, subst, append_assoc, append-nil, arith, length-append, length-set, length-take, add-one, length-drop, take-take, take_all, drop-drop, get_or-drop, get_or-take, length-take-le}
use Rattle.std.proofs.lemmas.List.{length-map, map-append, take-append-le}
use Rattle.std.proofs.lemmas.List.Edits.{sets, sets-eq}
use Rattle.std.proofs.Math.Seq.{length-sets, drop-append-add, drop-cons, take-suc, get_or_at, set_at}
use Rattle.scan.specs.Scan.{pick}
use Rattle.scan.specs.Runs.{sets_append}
use Rattle.octets.specs.Big.{number, number_cong}
use Rattle.sheet.specs.Format.{HEAD, length_at, version_at}
use Rattle.book_parts.specs.Moved as moved
use Rattle.book.specs.Ordered.{entry, key_of, start_of}
use Rattle.book.specs.Pieces.{length_of, live}
use Rattle.book.specs.Closed.{kept, kept-short, kept_step, kept_long, slid}

-- ---- the bytes from a place on, up to an end

abbrev pub run : (l : List ℕ) (end at : ℕ) → List ℕ
run l end at = drop at (take end l)

pub run_long : (l : List ℕ) (end at : ℕ) → end ≤ length l → length (run l end at) ≡ end - at
run_long l end at h = length-drop at (take end l) ∙ ap (λ (n : ℕ). n - at) (length-take-le end l h)

module _ (l : List ℕ) (end at : ℕ) (fits : end ≤ length l) (head : at + HEAD ≤ end) where
  byte_is : (i : ℕ) → i < HEAD → get_or (run l end at) i 0 ≡ get_or (drop at l) i 0
  byte_is i h = get_or-drop at (take end l) i 0 ∙ get_or-take end l (at + i) 0 (omega arith) ∙ sym (get_or-drop at l i 0)

  pub run-live : live (run l end at) ≡ live (drop at l)
  run-live = ap (λ (n : ℕ). not (eqb n 0)) (byte_is 4 (omega arith))

  pub run_length : length_of (run l end at) ≡ length_of (drop at l)
  run_length = ap (λ (n : ℕ). 4 + n) (number_cong (run l end at) (drop at l) 0 0 4 (λ j h. byte_is (0 + j) (omega arith)))

-- ---- one piece of a run

drop_past : (n : ℕ) (l : List ℕ) → length l ≤ n → drop n l ≡ []
drop_past zero [] h = refl
drop_past zero (x ∷ l) h = absurd (omega arith)
drop_past (suc n) [] h = refl
drop_past (suc n) (x ∷ l) h = drop_past n l (omega arith)

take_least : (n k : ℕ) (l : List ℕ) → take n (take k l) ≡ take (min n k) l
take_least n k l = go (n - k) refl
  where
    go : (d : ℕ) → n - k ≡ d → take n (take k l) ≡ take (min n k) l
    go zero e = let m : n ≡ min n k = omega arith in take-take n k l (omega arith) ∙ ap (λ (j : ℕ). take j l) m
    go (suc d) e = let m : k ≡ min n k = omega arith in take_all n (take k l) (omega (arith, length-take k l)) ∙ ap (λ (j : ℕ). take j l) m

-- the end of a run of which n bytes go
drop_least : (n m : ℕ) (l : List ℕ) → m ≡ min (length l) n → drop n l ≡ drop m l
drop_least n m l e = go (n - length l) refl
  where
    go : (d : ℕ) → n - length l ≡ d → drop n l ≡ drop m l
    go zero z = let s : n ≡ m = omega arith in ap (λ (j : ℕ). drop j l) s
    go (suc d) z = drop_past n l (omega arith) ∙ sym (drop_past m l (omega arith))

module _ (l : List ℕ) (end at : ℕ) (fits : end ≤ length l) (head : at + HEAD ≤ end) {m : ℕ} (e : m ≡ min (end - at) (length_of (drop at l))) where
  abbrev n : ℕ
  n = length_of (run l end at)

  least : m ≡ min (length (run l end at)) n
  least = e ∙ ap₂ (λ (a b : ℕ). min a b) (sym (run_long l end at fits)) (sym (run_length l end at fits head))

  pub piece_long : (0 < m) × (at + m ≤ end)
  piece_long = (omega arith, omega arith)

  after : drop n (run l end at) ≡ run l end (at + m)
  after = drop_least n m (run l end at) least ∙ drop-drop m at (take end l)

  taken : take n (run l end at) ≡ take m (drop at l)
  taken =
      let k : end ≡ at + (end - at) = omega arith in
      let s : min n (end - at) ≡ m = omega (arith, least, run_long l end at fits) in
      ap (take n) (behind at l end (omega arith)) ∙ take_least n (end - at) (drop at l) ∙ ap (λ (j : ℕ). take j (drop at l)) s
    where
      behind : (i : ℕ) (l : List ℕ) (n : ℕ) → i ≤ n → drop i (take n l) ≡ take (n - i) (drop i l)
      behind i l n h = sym (moved.behind l i n h)

  long : HEAD ≤ length (run l end at)
  long = omega (arith, run_long l end at fits)

  pub kept-live : live (drop at l) ≡ true → kept (run l end at) ≡ take m (drop at l) ++ kept (run l end (at + m))
  kept-live b =
      kept_step (run l end at) long
      ∙ ap (λ (c : Bool). pick c (take n (run l end at) ++ kept (drop n (run l end at))) (kept (drop n (run l end at)))) (run-live l end at fits head ∙ b)
      ∙ ap₂ (λ (x y : List ℕ). x ++ kept y) taken after

  pub kept-gone : live (drop at l) ≡ false → kept (run l end at) ≡ kept (run l end (at + m))
  kept-gone b =
      kept_step (run l end at) long
      ∙ ap (λ (c : Bool). pick c (take n (run l end at) ++ kept (drop n (run l end at))) (kept (drop n (run l end at)))) (run-live l end at fits head ∙ b)
      ∙ ap kept after

  pub taken_long : length (take m (drop at l)) ≡ m
  taken_long = length-take-le m (drop at l) (omega (arith, length-drop at l))

-- ---- live bytes counted

pub record Counting (l : List ℕ) (end at sum : ℕ) : Type 0 where
  pub fits : end ≤ length l
  pub within : at ≤ end
  pub few : sum ≤ at
  pub left : length (kept (take end l)) ≡ sum + length (kept (run l end at))

pub counting_starts : (l : List ℕ) (end : ℕ) → end ≤ length l → Counting l end 0 0
counting_starts l end h = record { fits = h; within = omega arith; few = omega arith; left = omega arith }

module _ {l : List ℕ} {end at sum : ℕ} (c : Counting l end at sum) (h : HEAD ≤ end - at) {m : ℕ} (e : m ≡ min (end - at) (length_of (drop at l))) where
  abbrev head_fits : at + HEAD ≤ end
  head_fits = omega (arith, c.within)

  pub counting_live : live (drop at l) ≡ true → Counting l end (at + m) (sum + m)
  counting_live b =
      let p = piece_long l end at c.fits head_fits e in
      record {
        fits = c.fits;
        within = p.1;
        few = omega (arith, c.few);
        left = omega (arith, c.left, ap length (kept-live l end at c.fits head_fits e b), length-append (take m (drop at l)) (kept (run l end (at + m))), taken_long l end at c.fits head_fits e);
      }

  pub counting_gone : live (drop at l) ≡ false → Counting l end (at + m) sum
  counting_gone b =
      let p = piece_long l end at c.fits head_fits e in
      record { fits = c.fits; within = p.1; few = omega (arith, c.few); left = omega (arith, c.left, ap length (kept-gone l end at c.fits head_fits e b)) }

pub counting_more : {l : List ℕ} {end at sum m k : ℕ} → Counting l end at sum → HEAD ≤ end - at → m ≡ min (end - at) (length_of (drop at l)) → k ≡ pick (live (drop at l)) m 0 → Counting l end (at + m) (sum + k)
counting_more {l} {end} {at} {sum} {m} {k} c h e f = go (live (drop at l)) refl f
  where
    go : (b : Bool) → live (drop at l) ≡ b → k ≡ pick b m 0 → Counting l end (at + m) (sum + k)
    go true z f = subst (λ (j : ℕ). Counting l end (at + m) (sum + j)) (sym f) (counting_live c h e z)
    go false z f = let s : sum ≡ sum + k = omega arith in subst (Counting l end (at + m)) s (counting_gone c h e z)

pub counting_ends : {l : List ℕ} {end at sum : ℕ} → Counting l end at sum → end - at < HEAD → sum ≡ length (kept (take end l))
counting_ends {l} {end} {at} {sum} c h = omega (arith, c.left, ap length (kept-short (run l end at) (omega (arith, run_long l end at c.fits))))

-- ---- live pieces moved

pub record Sliding (l : List ℕ) (end : ℕ) (is : List ℕ) (at to : ℕ) : Type 0 where
  pub fits : end ≤ length l
  pub within : at ≤ end
  pub few : to ≤ at
  pub moved : List ℕ
  pub long : length moved ≡ to
  pub left : kept (take end l) ≡ moved ++ kept (run l end at)
  pub wrote : is ≡ sets l 0 moved

pub sliding_starts : (l : List ℕ) (end : ℕ) → end ≤ length l → Sliding l end l 0 0
sliding_starts l end h = record { fits = h; within = omega arith; few = omega arith; moved = []; long = refl; left = refl; wrote = refl }

-- what lies ahead is as it was
drop_sets : (l w : List ℕ) (at : ℕ) → length w ≤ at → at ≤ length l → drop at (sets l 0 w) ≡ drop at l
drop_sets l w at h g =
    let k : at ≡ length w + (at - length w) = omega arith in
    let z : 0 + length w ≡ length w = omega arith in
    let back : length w + (at - length w) ≡ at = omega arith in
    ap (drop at) (sets-eq w l 0 (omega arith)) ∙ ap₂ (λ (j n : ℕ). drop j (w ++ drop n l)) k z ∙ drop-append-add w (drop (length w) l) (at - length w)
    ∙ drop-drop (at - length w) (length w) l ∙ ap (λ (j : ℕ). drop j l) back

module _ {l : List ℕ} {end : ℕ} {is : List ℕ} {at to : ℕ} (s : Sliding l end is at to) where
  pub sliding_long : length is ≡ length l
  sliding_long = ap length s.wrote ∙ length-sets l 0 s.moved

  pub sliding_ahead : drop at is ≡ drop at l
  sliding_ahead = ap (drop at) s.wrote ∙ drop_sets l s.moved at (omega (arith, s.long, s.few)) (omega (arith, s.within, s.fits))

  module _ (h : HEAD ≤ end - at) {m : ℕ} (e : m ≡ min (end - at) (length_of (drop at is))) where
    abbrev head_at : at + HEAD ≤ end
    head_at = omega (arith, s.within)

    e_was : m ≡ min (end - at) (length_of (drop at l))
    e_was = e ∙ ap (λ (k : List ℕ). min (end - at) (length_of k)) sliding_ahead

    pub sliding_piece : (0 < m) × (at + m ≤ end)
    sliding_piece = piece_long l end at s.fits head_at e_was

    pub sliding_live : live (drop at is) ≡ true → Sliding l end (sets is to (take m (drop at is))) (at + m) (to + m)
    sliding_live b =
        let p = sliding_piece in
        let w = take m (drop at l) in
        let n : length w ≡ m = taken_long l end at s.fits head_at e_was in
        let z : 0 + length s.moved ≡ to = omega (arith, s.long) in
        record {
          fits = s.fits;
          within = p.1;
          few = omega (arith, s.few);
          moved = s.moved ++ w;
          long = length-append s.moved w ∙ omega (arith, s.long, n);
          left =
              s.left ∙ ap (λ (k : List ℕ). s.moved ++ k) (kept-live l end at s.fits head_at e_was (ap live (sym sliding_ahead) ∙ b))
              ∙ sym (append_assoc s.moved w (kept (run l end (at + m))));
          wrote =
              ap₂ (λ (o k : List ℕ). sets o to (take m k)) s.wrote sliding_ahead ∙ ap (λ (j : ℕ). sets (sets l 0 s.moved) j w) (sym z)
              ∙ sym (sets_append l 0 s.moved w);
        }

    pub sliding_gone : live (drop at is) ≡ false → Sliding l end is (at + m) to
    sliding_gone b =
        let p = sliding_piece in
        record {
          fits = s.fits;
          within = p.1;
          few = omega (arith, s.few);
          moved = s.moved;
          long = s.long;
          left = s.left ∙ ap (λ (k : List ℕ). s.moved ++ k) (kept-gone l end at s.fits head_at e_was (ap live (sym sliding_ahead) ∙ b));
          wrote = s.wrote;
        }

    -- nothing moves where it is gone
    pub sliding_more : {k : ℕ} → k ≡ pick (live (drop at is)) m 0 → Sliding l end (sets is to (take k (drop at is))) (at + m) (to + k)
    sliding_more {k} f = go (live (drop at is)) refl f
      where
        go : (b : Bool) → live (drop at is) ≡ b → k ≡ pick b m 0 → Sliding l end (sets is to (take k (drop at is))) (at + m) (to + k)
        go true z f = subst (λ (j : ℕ). Sliding l end (sets is to (take j (drop at is))) (at + m) (to + j)) (sym f) (sliding_live z)
        go false z f =
            let n : to ≡ to + 0 = omega arith in
            subst (λ (j : ℕ). Sliding l end (sets is to (take j (drop at is))) (at + m) (to + j)) (sym f) (subst (Sliding l end is (at + m)) n (sliding_gone z))

  pub sliding_ends : end - at < HEAD → (to ≡ length (kept (take end l))) × (is ≡ sets l 0 (kept (take end l)))
  sliding_ends h =
      let all : kept (take end l) ≡ s.moved =
      s.left ∙ ap (λ (k : List ℕ). s.moved ++ k) (kept-short (run l end at) (omega (arith, run_long l end at s.fits))) ∙ append-nil s.moved in
      (sym (ap length all ∙ s.long), s.wrote ∙ ap (sets l 0) (sym all))

-- ---- a place of the index

pub slid_is : (l : List ℕ) (end x start n : ℕ) → start ≡ min (start_of x) end → n ≡ length (kept (take start l)) → entry (key_of x) n ≡ slid (take end l) x
unfolding slid
slid_is l end x start n e f =
    ap (entry (key_of x)) (f ∙ ap (λ (k : ℕ). length (kept (take k l))) e ∙ ap (λ (k : List ℕ). length (kept k)) (sym (take_least (start_of x) end l)))

-- ---- the places of the index, one after another

-- the first i numbers have become what f makes of them, and those ahead are as they were
pub record Following (f : ℕ → ℕ) (was : List ℕ) (n : ℕ) (is : List ℕ) (i : ℕ) : Type 0 where
  pub room : n ≤ length was
  pub within : i ≤ n
  pub long : length is ≡ length was
  pub wrote : is ≡ map f (take i was) ++ drop i was

pub following_starts : (f : ℕ → ℕ) (l : List ℕ) (n : ℕ) → n ≤ length l → Following f l n l 0
following_starts f l n h = record { room = h; within = omega arith; long = refl; wrote = refl }

module _ {f : ℕ → ℕ} {was : List ℕ} {n : ℕ} {is : List ℕ} {i : ℕ} (q : Following f was n is i) where
  front : i ≤ length was → length (map f (take i was)) ≡ i
  front h = length-map (take i was) f ∙ length-take-le i was h

  split : i < n → is ≡ map f (take i was) ++ (get_or was i 0 ∷ drop (suc i) was)
  split h = q.wrote ∙ ap (λ (l : List ℕ). map f (take i was) ++ l) (drop-cons was i 0 (omega (arith, q.room)))

  following_ahead : i < n → get_or is i 0 ≡ get_or was i 0
  following_ahead h = ap (λ (l : List ℕ). get_or l i 0) (split h) ∙ get_or_at (map f (take i was)) (get_or was i 0) (drop (suc i) was) 0 i (front (omega (arith, q.room)))

  pub following_more : {y : ℕ} → i < n → y ≡ f (get_or is i 0) → Following f was n (set is i y) (i + 1)
  following_more {y} h e = record {
    room = q.room;
    within = omega arith;
    long = length-set is i y ∙ q.long;
    wrote =
        ap₂ (λ (l : List ℕ) (v : ℕ). set l i v) (split h) (e ∙ ap f (following_ahead h))
        ∙ set_at (map f (take i was)) x rest (f x) i (front (omega (arith, q.room)))
        ∙ sym (append_assoc (map f (take i was)) (f x ∷ []) rest)
        ∙ sym (ap (λ (l : List ℕ). l ++ rest) (ap (map f) (take-suc was i 0 (omega (arith, q.room))) ∙ map-append f (take i was) (x ∷ [])))
        ∙ sym (ap (λ (k : ℕ). map f (take k was) ++ drop k was) (add-one i));
  }
    where
      x : ℕ
      x = get_or was i 0

      rest : List ℕ
      rest = drop (suc i) was

  pub following_ends : n ≤ i → is ≡ sets was 0 (map f (take n was))
  following_ends h =
      let all : i ≡ n = omega (arith, q.within) in
      let many : length (map f (take n was)) ≡ n = length-map (take n was) f ∙ length-take-le n was q.room in
      let end : n ≡ 0 + length (map f (take n was)) = omega arith in
      q.wrote ∙ ap (λ (k : ℕ). map f (take k was) ++ drop k was) all ∙ ap (λ (k : ℕ). map f (take n was) ++ drop k was) end
      ∙ sym (sets-eq (map f (take n was)) was 0 (omega (arith, q.room)))

-- a number of a list of values
pub get_d_map : (f : ℕ → ℕ) (l : List ℕ) (i : ℕ) → i < length l → get_or (map f l) i 0 ≡ f (get_or l i 0)
get_d_map f [] i h = absurd (omega arith)
get_d_map f (x ∷ l) zero h = refl
get_d_map f (x ∷ l) (suc i) h = get_d_map f l i (omega arith)

-- ---- what stands from a place on

pub live_at : (l : List ℕ) (at : ℕ) → not (eqb (get_or l (at + 4) 0) 0) ≡ live (drop at l)
live_at l at = ap (λ (n : ℕ). not (eqb n 0)) (sym (get_or-drop at l 4 0))

pub length-at : (l : List ℕ) (at n : ℕ) → n ≡ number l at 4 → 4 + n ≡ length_of (drop at l)
length-at l at n e = ap (λ (k : ℕ). 4 + k) (e ∙ number_cong l (drop at l) at 0 4 (λ j h. sym (get_or-drop at l (0 + j) 0 ∙ ap (λ (k : ℕ). get_or l k 0) (omega arith))))
