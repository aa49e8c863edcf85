-- Answers written piece by piece: numbers after spaces, words, paths; and how long their text is at most. Assumes nothing.
use Prim.Native.Nat.{ℕ, zero, suc, ◌+◌, ◌-◌, ◌*◌, ◌≤◌, ◌<◌}
use Rattle.std.specs.Prelude.{◌≡◌, List, [], ◌∷◌, ◌++◌, length, set, take, drop}
use Rattle.std.proofs.Math.Path.{refl, ap}
use Rattle.std.proofs.Common.{sym, ◌∙◌, subst, append_assoc, append-nil, add-one, add-zero, add-suc, length-append, length-take, take-append-drop, take-suc, take_all, get_or-drop}
use native.Mathlib.Omega.{arith}
use Rattle.std.proofs.Math.Nat.{mul-le-mul_right}
use Rattle.std.proofs.Math.ListN.{get_or}
use Rattle.std.proofs.lemmas.List.Edits.{sets-eq}
use Rattle.decimal.specs.Digits.{digits, digits-short}
use Rattle.decimal.specs.Number.{limit}
use Rattle.decimal.specs.Write.{Put, put_long, put-none, put_then, put_byte, put_as}
use Rattle.paths.specs.Fan.{hops}
use Rattle.answers.specs.Told.{number, place}
use Rattle.answers.specs.Laws.{number-few}
use Rattle.answers.specs.declared.Refusal.{Refusal}
use Rattle.line.specs.Text.{spaced, line_end}
use Rattle.line.specs.Written.{fan_word, relays_of, path_text, paths_text, fan_text, refused_text, fan_room, refused_room}

-- ---- numbers after spaces

-- a list of one number
abbrev pub one : ℕ → List ℕ
one n = n ∷ []

pub spaced-append : (a b : List ℕ) → spaced (a ++ b) ≡ spaced a ++ spaced b
unfolding spaced
spaced-append [] b = refl
spaced-append (n ∷ a) b = ap (λ (l : List ℕ). 32 ∷ (digits n ++ l)) (spaced-append a b) ∙ ap (λ (l : List ℕ). 32 ∷ l) (sym (append_assoc (digits n) (spaced a) (spaced b)))

spaced-one : (n : ℕ) → spaced (n ∷ []) ≡ 32 ∷ digits n
unfolding spaced
spaced-one n = ap (λ (l : List ℕ). 32 ∷ l) (append-nil (digits n))

one_long : (n : ℕ) → length (spaced (n ∷ [])) ≡ 1 + length (digits n)
one_long n = ap length (spaced-one n) ∙ omega arith

-- a number takes 21 bytes at most
one-short : (n : ℕ) → n < limit → length (spaced (n ∷ [])) ≤ 21
one-short n h = omega (arith, one_long n, digits-short n h)

pub spaced-short : (l : List ℕ) → ((i : ℕ) → get_or l i 0 < limit) → length (spaced l) ≤ length l * 21
unfolding spaced
spaced-short [] b = omega arith
spaced-short (n ∷ l) b = omega (arith, spaced-short l (λ i. b (suc i)), digits-short n (b 0), length-append (digits n) (spaced l))

-- a space and a number
module _ (was : List ℕ) (at n : ℕ) where
  pub next-room : at + length (spaced (n ∷ [])) ≤ length was → (at < length was) × (at + 1 + length (digits n) ≤ length (set was at 32))
  next-room h = (omega (arith, one_long n), omega (arith, one_long n, put_long (put_byte was at 32)))

  pub next-put : {p : ℕ} {now : List ℕ} → Put (set was at 32) (at + 1) (digits n) p now → Put was at (spaced (n ∷ [])) p now
  next-put w = put_as (sym (spaced-one n)) (put_then (put_byte was at 32) w)

-- ---- a list of numbers

pub record Putting (was : List ℕ) (at : ℕ) (list : List ℕ) (i p : ℕ) (now : List ℕ) : Type 0 where
  pub within : i ≤ length list
  pub put : Put was at (spaced (take i list)) p now

module _ (was : List ℕ) (at : ℕ) (list : List ℕ) where
  pub list_start : Putting was at list 0 at was
  unfolding spaced
  list_start = record { within = omega arith; put = put-none was at }

  one_more : (i : ℕ) → i < length list → spaced (take (i + 1) list) ≡ spaced (take i list) ++ spaced (get_or list i 0 ∷ [])
  one_more i h = ap (λ (k : ℕ). spaced (take k list)) (add-one i) ∙ ap spaced (take-suc list i 0 h) ∙ spaced-append (take i list) (get_or list i 0 ∷ [])

  -- a part is no longer than the whole
  part_long : (i : ℕ) → length (spaced (take i list)) ≤ length (spaced list)
  part_long i = omega (arith, ap length (ap spaced (sym (take-append-drop i list)) ∙ spaced-append (take i list) (drop i list)), length-append (spaced (take i list)) (spaced (drop i list)))

  module _ {i p : ℕ} {now : List ℕ} (l : Putting was at list i p now) where
    pub list_room : i < length list → at + length (spaced list) ≤ length was → p + length (spaced (get_or list i 0 ∷ [])) ≤ length now
    list_room h g =
        omega (arith, part_long (i + 1), ap length (one_more i h), length-append (spaced (take i list)) (spaced (get_or list i 0 ∷ [])), l.put.place, put_long l.put)

    pub list_more : {q : ℕ} {then : List ℕ} → i < length list → Put now p (spaced (get_or list i 0 ∷ [])) q then → Putting was at list (i + 1) q then
    list_more h w = record { within = omega arith; put = put_as (sym (one_more i h)) (put_then l.put w) }

    pub list_all : length list ≤ i → Put was at (spaced list) p now
    list_all h = put_as (ap spaced (take_all i list h)) l.put

-- ---- a word

-- written by a loop, which has come to i
pub record Wording (was ws : List ℕ) (i : ℕ) (now : List ℕ) : Type 0 where
  pub within : i ≤ length ws
  pub put : Put was 0 (take i ws) i now

module _ (was ws : List ℕ) where
  pub word-start : Wording was ws 0 was
  word-start = record { within = omega arith; put = put-none was 0 }

  module _ {i : ℕ} {now : List ℕ} (l : Wording was ws i now) where
    pub word_room : i < length ws → 0 + length ws ≤ length was → i < length now
    word_room h g = omega (arith, put_long l.put)

    pub word_more : i < length ws → Wording was ws (i + 1) (set now i (get_or ws i 0))
    word_more h = record {
      within = omega arith;
      put = put_as (sym (ap (λ (k : ℕ). take k ws) (add-one i) ∙ take-suc ws i 0 h)) (put_then l.put (put_byte now i (get_or ws i 0)));
    }

    pub word-all : length ws ≤ i → Put was 0 ws i now
    word-all h = put_as (take_all i ws h) l.put

-- copied to the front
pub word-put : (was ws : List ℕ) {now : List ℕ} → now ≡ ws → 0 + length ws ≤ length was → Put was 0 ws (length ws) (now ++ drop (length ws) was)
word-put was ws {now} e h =
    let same : 0 + length ws ≡ length ws = omega arith in
    record { place = omega arith; wrote = ap (λ (l : List ℕ). l ++ drop (length ws) was) e ∙ sym (sets-eq ws was 0 h ∙ ap (λ (n : ℕ). ws ++ drop n was) same) }

-- ---- a line and a path

module _ {was : List ℕ} {at : ℕ} (list : List ℕ) {p : ℕ} {now : List ℕ} (w : Put was at (spaced list) p now) where
  pub end-room : at + length (spaced list ++ line_end) ≤ length was → p < length now
  end-room h = omega (arith, length-append (spaced list) line_end, w.place, put_long w)

  pub end-put : Put was at (spaced list ++ line_end) (p + 1) (set now p 10)
  end-put = put_then w (put_byte now p 10)

-- a text has room where it and another have, and the other after it
pub first-room : (was : List ℕ) (at : ℕ) (a b : List ℕ) → at + length (a ++ b) ≤ length was → at + length a ≤ length was
first-room was at a b h = omega (arith, length-append a b)

pub then_room : {was : List ℕ} {at : ℕ} (a b : List ℕ) {p : ℕ} {now : List ℕ} → Put was at a p now → at + length (a ++ b) ≤ length was → p + length b ≤ length now
then_room a b w h = omega (arith, length-append a b, w.place, put_long w)

-- ---- the paths

-- the places and counts of k paths, each of which fits its places
pub record Rows (k w : ℕ) (places counts : List ℕ) : Type 0 where
  pub places_for : k * w ≤ length places
  pub counts_for : k ≤ length counts
  pub below : (i : ℕ) → i < k → hops counts i < w

module _ {k w : ℕ} {places counts : List ℕ} (r : Rows k w places counts) where
  -- path i lies within the places
  pub row_within : {i : ℕ} → i < k → i * w + get_or counts i 0 + 1 ≤ length places
  unfolding hops
  row_within {i} g = let le : suc i * w ≤ k * w = mul-le-mul_right w g in omega (arith, r.places_for, r.below i g)

module _ (w : ℕ) (places counts : List ℕ) where
  pub paths-none : paths_text w places counts 0 ≡ []
  unfolding paths_text
  paths-none = refl

  paths-more : (i : ℕ) → paths_text w places counts (suc i) ≡ paths_text w places counts i ++ path_text (hops counts i) (relays_of w places counts i)
  unfolding paths_text
  paths-more i = refl

  -- path i as it is cut out of the places
  abbrev pub row_text : ℕ → List ℕ
  row_text i = path_text (get_or counts i 0) (take (i * w + get_or counts i 0 + 1 - i * w) (drop (i * w) places))

  row-text : (i : ℕ) → row_text i ≡ path_text (hops counts i) (relays_of w places counts i)
  unfolding hops
  row-text i =
      let same : i * w + get_or counts i 0 + 1 - i * w ≡ get_or counts i 0 + 1 = omega arith in
      ap (λ (n : ℕ). path_text (get_or counts i 0) (take n (drop (i * w) places))) same

  path_long : (i : ℕ) → length (paths_text w places counts (suc i)) ≡ length (paths_text w places counts i) + length (path_text (hops counts i) (relays_of w places counts i))
  path_long i = ap length (paths-more i) ∙ length-append (paths_text w places counts i) (path_text (hops counts i) (relays_of w places counts i))

  -- fewer paths take no more
  paths-part : (i n : ℕ) → length (paths_text w places counts i) ≤ length (paths_text w places counts (i + n))
  paths-part i zero = let e = ap (λ (m : ℕ). length (paths_text w places counts m)) (add-zero i) in omega arith
  paths-part i (suc n) =
      let e = ap (λ (m : ℕ). length (paths_text w places counts m)) (add-suc i n) in omega (arith, paths-part i n, path_long (i + n))

  -- the loop has written i of k paths
  pub record Pathing (was : List ℕ) (at k i p : ℕ) (now : List ℕ) : Type 0 where
    pub within : i ≤ k
    pub put : Put was at (paths_text w places counts i) p now

  module _ (was : List ℕ) (at k : ℕ) where
    pub paths-start : Pathing was at k 0 at was
    paths-start = record { within = omega arith; put = put_as (sym paths-none) (put-none was at) }

    module _ {i p : ℕ} {now : List ℕ} (l : Pathing was at k i p now) where
      pub path_room : i < k → at + length (paths_text w places counts k) ≤ length was → p + length (row_text i) ≤ length now
      path_room h g =
          let rest : suc i + (k - suc i) ≡ k = omega arith in
          let e = ap (λ (m : ℕ). length (paths_text w places counts m)) rest in
          omega (arith, ap length (row-text i), paths-part (suc i) (k - suc i), path_long i, l.put.place, put_long l.put)

      pub path-more : {q : ℕ} {then : List ℕ} → i < k → Put now p (row_text i) q then → Pathing was at k (i + 1) q then
      path-more h v = record { within = omega arith; put = put_as (sym (ap (paths_text w places counts) (add-one i) ∙ paths-more i)) (put_then l.put (put_as (row-text i) v)) }

      pub paths-all : k ≤ i → Put was at (paths_text w places counts k) p now
      paths-all h = let e : i ≡ k = omega (arith, l.within) in put_as (ap (paths_text w places counts) e) l.put

-- ---- how long the text is at most

-- what holds of each number of a list holds of each of a part
take_below : (n : ℕ) (l : List ℕ) → ((i : ℕ) → get_or l i 0 < limit) → (j : ℕ) → get_or (take n l) j 0 < limit
take_below zero l b j = omega arith
take_below (suc n) [] b j = omega arith
take_below (suc n) (x ∷ l) b zero = b 0
take_below (suc n) (x ∷ l) b (suc j) = take_below n l (λ i. b (suc i)) j

drop-below : (n : ℕ) (l : List ℕ) → ((i : ℕ) → get_or l i 0 < limit) → (j : ℕ) → get_or (drop n l) j 0 < limit
drop-below n l b j = subst (λ (x : ℕ). x < limit) (sym (get_or-drop n l j 0)) (b (n + j))

module _ (w : ℕ) (places counts : List ℕ) (small : (i : ℕ) → get_or places i 0 < limit) (few : (i : ℕ) → get_or counts i 0 < limit) where
  count_small : (i : ℕ) → hops counts i < limit
  unfolding hops
  count_small i = few i

  path-short : (i : ℕ) → hops counts i < w → length (path_text (hops counts i) (relays_of w places counts i)) ≤ (w + 1) * 21
  path-short i h = omega (
    arith,
    length-append (digits (hops counts i)) (spaced (relays_of w places counts i) ++ line_end),
    length-append (spaced (relays_of w places counts i)) line_end,
    digits-short (hops counts i) (count_small i),
    spaced-short (relays_of w places counts i) (take_below (hops counts i + 1) (drop (i * w) places) (drop-below (i * w) places small)),
    length-take (hops counts i + 1) (drop (i * w) places),
  )

  paths-short : (k : ℕ) → ((i : ℕ) → i < k → hops counts i < w) → length (paths_text w places counts k) ≤ k * (w + 1) * 21
  paths-short zero b = omega (arith, ap length (paths-none w places counts))
  paths-short (suc k) b = omega (arith, path_long w places counts k, path-short k (b k (omega arith)), paths-short k (λ i h. b i (omega arith)))

  head-short : (k : ℕ) → k < limit → length (fan_word ++ (spaced (k ∷ []) ++ line_end)) ≤ 25
  head-short k h = omega (arith, length-append (spaced (k ∷ [])) line_end, one-short k h)

  -- the text of a fan fits where there is room for the longest
  pub fan-short : (k : ℕ) → k < limit → ((i : ℕ) → i < k → hops counts i < w) → length (fan_text k w places counts) ≤ fan_room k w
  fan-short k h b = omega (arith, length-append (fan_word ++ (spaced (k ∷ []) ++ line_end)) (paths_text w places counts k), head-short k h, paths-short k b)

number_small : (why : Refusal) → number why < limit
number_small why = omega (arith, number-few why)

pub refused_short : (why : Refusal) → place why < limit → length (refused_text why) ≤ refused_room
unfolding spaced
refused_short why h = omega (
  arith,
  length-append (spaced (number why ∷ place why ∷ [])) line_end,
  length-append (digits (number why)) (spaced (place why ∷ [])),
  one-short (place why) h,
  digits-short (number why) (number_small why),
)

-- a text written at the front
pub put_front : {was text now : List ℕ} {p : ℕ} → length text ≤ length was → Put was 0 text p now → (p ≡ length text) × (now ≡ text ++ drop (length text) was)
put_front {was} {text} h w =
    let same : 0 + length text ≡ length text = omega arith in
    (omega (arith, w.place), w.wrote ∙ sets-eq text was 0 (omega arith) ∙ ap (λ (n : ℕ). text ++ drop n was) same)
