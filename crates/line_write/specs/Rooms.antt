-- Whether there is room for an answer, test by test as code goes through them, and what is told and left then. Assumes nothing.
use Rattle.std.specs.Prelude.{ℕ, suc, ◌+◌, ◌-◌, ◌*◌, ◌/◌, ◌≤◌, ◌<◌, ◌≡◌, refl, Bool, true, ◌≢◌, List, [], ◌∷◌, ◌++◌, leb, ltb, length, get_or, take}
use Rattle.std.specs.List.{list_any}
use Rattle.std.proofs.Math.Path.{sym, ap}
use Rattle.std.proofs.Common.{◌∙◌, arith, le-div_iff_mul-le, div-lt_iff_lt-mul}
use Rattle.std.proofs.Math.Bool.{false}
use Rattle.std.proofs.Math.Decide.{dec_lt}
use borrow.Author.Tests.{ltb-false, lt-ltb, le-ltb, le-leb, lt-leb, leb-false}
use Rattle.scan.specs.Scan.{pick, any}
use Rattle.scan.specs.Laws.{true-false, any_false, true-any, false-any, Passed}
use Rattle.answers.specs.Told.{number, place, told}
use Rattle.answers.specs.declared.Refusal.{Refusal}
use Rattle.paths.specs.Fan.{hops}
use Rattle.decimal.specs.Write.{Put, put_then, put_as}
use Rattle.decimal.specs.Number.{limit}
use Rattle.line.specs.Listed.{listed}
use Rattle.line.specs.Text.{spaced, line_end}
use Rattle.line.specs.Written.{fan_word, refused_word, paths_text, fan_text, refused_text, overlong, fan_room, wanting, write_told, write_leaves}
use Rattle.line_put.specs.Writes.{one, Rows, first-room, then_room, fan-short, refused_short, put_front}

-- ---- products by quotients

module _ (have k w : ℕ) where
  pub few-none : k ≡ 0 → false ≡ ltb have (k * w)
  few-none e = sym (le-ltb have (k * w) (let z : k * w ≡ 0 * w = ap (λ (x : ℕ). x * w) e in omega arith))

  pub few-some : k ≢ 0 → ltb (have / k) w ≡ ltb have (k * w)
  few-some ne = go (dec_lt (have / k) w)
    where
      go : Dec (have / k < w) → ltb (have / k) w ≡ ltb have (k * w)
      go (yes h) = lt-ltb (have / k) w h ∙ sym (lt-ltb have (k * w) (omega (arith, (div-lt_iff_lt-mul {k = k} {x = have} {y = w} (omega arith)).0 h)))
      go (no h) = le-ltb (have / k) w (omega arith) ∙ sym (le-ltb have (k * w) (omega (arith, (le-div_iff_mul-le {k = k} {x = w} {y = have} (omega arith)).0 (omega arith))))

module _ (bytes k w : ℕ) where
  pub short-head : bytes < 25 → true ≡ ltb bytes (fan_room k w)
  short-head h = sym (lt-ltb bytes (fan_room k w) (omega arith))

  pub short_none : 25 ≤ bytes → k ≡ 0 → false ≡ ltb bytes (fan_room k w)
  short_none h e = sym (le-ltb bytes (fan_room k w) (let z : k * (w + 1) * 21 ≡ 0 * (w + 1) * 21 = ap (λ (x : ℕ). x * (w + 1) * 21) e in omega arith))

  pub short-some : 25 ≤ bytes → k ≢ 0 → leb ((bytes - 25) / 21 / k) w ≡ ltb bytes (fan_room k w)
  short-some g ne = go (dec_lt w ((bytes - 25) / 21 / k))
    where
      go : Dec (w < (bytes - 25) / 21 / k) → leb ((bytes - 25) / 21 / k) w ≡ ltb bytes (fan_room k w)
      go (yes h) = lt-leb ((bytes - 25) / 21 / k) w h ∙ sym (le-ltb bytes (fan_room k w) (
          let a : suc w * k ≤ (bytes - 25) / 21 = (le-div_iff_mul-le {k = k} {x = suc w} (omega arith)).0 h in
          let b : suc w * k * 21 ≤ bytes - 25 = (le-div_iff_mul-le {k = 21} {x = suc w * k} (omega arith)).0 a in
          omega arith
          ))
      go (no h) = le-leb ((bytes - 25) / 21 / k) w (omega arith) ∙ sym (lt-ltb bytes (fan_room k w) (
          let a : (bytes - 25) / 21 < suc w * k = (div-lt_iff_lt-mul {k = k} {y = suc w} (omega arith)).0 (omega arith) in
          let b : bytes - 25 < suc w * k * 21 = (div-lt_iff_lt-mul {k = 21} {y = suc w * k} (omega arith)).0 a in
          omega arith
          ))

-- ---- counts

pub overlong_is : (k w : ℕ) (counts : List ℕ) → k ≤ length counts → list_any (λ h. leb w h) (take k counts) ≡ any (overlong w counts) 0 k
unfolding hops
overlong_is k w counts h = listed (λ h. leb w h) counts 0 k (omega arith)

-- one by one
module _ (k w : ℕ) (counts : List ℕ) where
  pub is_overlong : (i : ℕ) → i < k → w ≤ get_or counts i 0 → true ≡ any (overlong w counts) 0 k
  unfolding hops
  is_overlong i h g = sym (true-any (overlong w counts) 0 k i (omega arith) (omega arith) (le-leb w (get_or counts i 0) g))

  pub not-overlong : (i : ℕ) → get_or counts i 0 < w → overlong w counts i ≡ false
  unfolding hops
  not-overlong i g = lt-leb w (get_or counts i 0) g

  pub none-overlong : {i : ℕ} → Passed (overlong w counts) 0 k i → k ≤ i → false ≡ any (overlong w counts) 0 k
  none-overlong p h = sym (false-any (overlong w counts) 0 k (λ j a b. p.fails j a (omega arith)))

-- ---- all tests

module _ (k w : ℕ) (places counts : List ℕ) (bytes : ℕ) where
  -- the tests, one after another
  tests : (a b c : Bool) → Bool
  tests a b c = pick a true (pick b true (pick c true (ltb bytes (fan_room k w))))

  pub want_counts : length counts < k → true ≡ wanting k w places counts bytes
  unfolding tests
  want_counts h = ap (λ (a : Bool). tests a (ltb (length places) (k * w)) (any (overlong w counts) 0 k)) (sym (lt-ltb (length counts) k h))

  module _ (h : k ≤ length counts) where
    with-counts : wanting k w places counts bytes ≡ tests false (ltb (length places) (k * w)) (any (overlong w counts) 0 k)
    unfolding tests
    with-counts = ap (λ (a : Bool). tests a (ltb (length places) (k * w)) (any (overlong w counts) 0 k)) (le-ltb (length counts) k h)

    pub want_places : {r : Bool} → r ≡ ltb (length places) (k * w) → r ≡ true → true ≡ wanting k w places counts bytes
    unfolding tests
    want_places e t = sym (with-counts ∙ ap (λ (b : Bool). tests false b (any (overlong w counts) 0 k)) (sym e ∙ t))

    module _ {r : Bool} (e : r ≡ ltb (length places) (k * w)) (f : r ≡ false) where
      with-places : wanting k w places counts bytes ≡ tests false false (any (overlong w counts) 0 k)
      with-places = with-counts ∙ ap (λ (b : Bool). tests false b (any (overlong w counts) 0 k)) (sym e ∙ f)

      pub want_paths : {s : Bool} → s ≡ any (overlong w counts) 0 k → s ≡ true → true ≡ wanting k w places counts bytes
      unfolding tests
      want_paths d t = sym (with-places ∙ ap (λ (c : Bool). tests false false c) (sym d ∙ t))

      pub want_bytes : {s t : Bool} → s ≡ any (overlong w counts) 0 k → s ≡ false → t ≡ ltb bytes (fan_room k w) → t ≡ wanting k w places counts bytes
      unfolding tests
      want_bytes d g u = u ∙ sym (with-places ∙ ap (λ (c : Bool). tests false false c) (sym d ∙ g))

  -- what holds where nothing wants
  pub record Roomy : Type 0 where
    pub rows : Rows k w places counts
    pub bytes_for : fan_room k w ≤ bytes

  no_pick : (a b : Bool) → pick a true b ≡ false → (a ≡ false) × (b ≡ false)
  no_pick true b e = absurd (true-false refl e)
  no_pick false b e = (refl, e)

  pub roomy : {r : Bool} → r ≡ wanting k w places counts bytes → r ≡ false → Roomy
  roomy e f =
      let a = no_pick (ltb (length counts) k) (pick (ltb (length places) (k * w)) true (pick (any (overlong w counts) 0 k) true (ltb bytes (fan_room k w)))) (sym e ∙ f) in
      let b = no_pick (ltb (length places) (k * w)) (pick (any (overlong w counts) 0 k) true (ltb bytes (fan_room k w))) a.1 in
      let c = no_pick (any (overlong w counts) 0 k) (ltb bytes (fan_room k w)) b.1 in
      record {
        rows = record {
          places_for = ltb-false (length places) (k * w) b.0;
          counts_for = ltb-false (length counts) k a.0;
          below = λ i h. leb-false w (hops counts i) (any_false (overlong w counts) 0 k c.0 i (omega arith) (omega arith));
        };
        bytes_for = ltb-false bytes (fan_room k w) c.1;
      }

-- ---- the parts of a fan's text

-- `fan k` and its line end
abbrev pub head_text : ℕ → List ℕ
head_text k = fan_word ++ (spaced (one k) ++ line_end)

-- a text at the front of a list that has room for it
pub record Front (was text : List ℕ) (p : ℕ) (now : List ℕ) : Type 0 where
  pub fits : 0 + length text ≤ length was
  pub put : Put was 0 text p now

module _ (k w : ℕ) (places counts was : List ℕ) (room : Roomy k w places counts (length was))
    (small : (i : ℕ) → get_or places i 0 < limit) (few : (i : ℕ) → get_or counts i 0 < limit) (fits : k < limit) where
  fan_fits : 0 + length (fan_text k w places counts) ≤ length was
  fan_fits = omega (arith, fan-short w places counts small few k fits room.rows.below, room.bytes_for)

  pub head-room : 0 + length (head_text k) ≤ length was
  head-room = first-room was 0 (head_text k) (paths_text w places counts k) fan_fits

  pub paths-room : {p : ℕ} {now : List ℕ} → Put was 0 (head_text k) p now → Rows k w places counts × (p + length (paths_text w places counts k) ≤ length now)
  paths-room v = (room.rows, then_room (head_text k) (paths_text w places counts k) v fan_fits)

  pub fan-put : {p q : ℕ} {mid now : List ℕ} → Put was 0 (head_text k) p mid → Put mid p (paths_text w places counts k) q now → Front was (fan_text k w places counts) q now
  fan-put u v = record { fits = fan_fits; put = put_then u v }

-- ---- the text of a refusal

module _ (why : Refusal) (was : List ℕ) {n p : ℕ} (e : n ≡ number why) (f : p ≡ place why) where
  refusal-text : refused_word ++ (spaced (n ∷ p ∷ []) ++ line_end) ≡ refused_text why
  refusal-text = ap (λ (x : ℕ). refused_word ++ (spaced (x ∷ p ∷ []) ++ line_end)) e ∙ ap (λ (x : ℕ). refused_word ++ (spaced (number why ∷ x ∷ []) ++ line_end)) f

  refusal_fits : p < limit → 50 ≤ length was → 0 + length (refused_text why) ≤ length was
  refusal_fits h g = omega (arith, refused_short why (omega arith))

  pub refusal-room : p < limit → 50 ≤ length was → 0 + length (refused_word ++ (spaced (n ∷ p ∷ []) ++ line_end)) ≤ length was
  refusal-room h g = omega (arith, refusal_fits h g, ap length refusal-text)

  pub refusal-put : {q : ℕ} {now : List ℕ} → p < limit → 50 ≤ length was → Put was 0 (refused_word ++ (spaced (n ∷ p ∷ []) ++ line_end)) q now → Front was (refused_text why) q now
  refusal-put h g w = record { fits = refusal_fits h g; put = put_as refusal-text w }

-- ---- what is told and left

module _ (text was : List ℕ) {r short : Bool} (e : r ≡ short) where
  pub written-not : r ≡ true → (told 8 0 0 ≡ write_told short text) × (was ≡ write_leaves short text was)
  written-not t = (ap (λ (b : Bool). write_told b text) (sym t ∙ e), ap (λ (b : Bool). write_leaves b text was) (sym t ∙ e))

  pub written : {p : ℕ} {now : List ℕ} → r ≡ false → Front was text p now → (told 0 0 p ≡ write_told short text) × (now ≡ write_leaves short text was)
  written f w =
      let q = put_front (omega (arith, w.fits)) w.put in
      (ap (told 0 0) q.0 ∙ ap (λ (b : Bool). write_told b text) (sym f ∙ e), q.1 ∙ ap (λ (b : Bool). write_leaves b text was) (sym f ∙ e))
