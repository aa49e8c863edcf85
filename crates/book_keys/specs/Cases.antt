-- How a key is looked up, case by case, in what code has of it. Assumes nothing.
use Rattle.std.specs.Prelude.{ℕ, ◌+◌, ◌-◌, ◌*◌, ◌≤◌, ◌<◌, min, ◌≡◌, refl, Bool, true, false, List, eqb, ltb, leb, length, get_or, set}
use Rattle.std.proofs.Math.Path.{sym, ap, ap₂}
use Rattle.std.proofs.Common.{◌∙◌, lt-ltb, le-ltb, ltb-true, ltb-false, leb-false}
use Rattle.std.proofs.Math.Option.{Option, none, some}
use native.Mathlib.Omega.{arith}
use Rattle.std.proofs.lemmas.List.Edits.{sets}
use Rattle.scan.specs.Scan.{pick}
use Rattle.scan.specs.Laws.{true-false, tests_same}
use Rattle.octets.specs.Big.{number, number-below}
use Rattle.sheet.specs.Format.{HEAD}
use Rattle.sheet.specs.declared.Flaw.{Flaw}
use Rattle.book_parts.specs.Place.{place, place_within}
use Rattle.book_parts.specs.Moved.{opened, closed}
use Rattle.book.specs.Ordered.{entry, key_of, start_of}
use Rattle.book.specs.Pieces.{key, key_at}
use Rattle.book.specs.Removed.{VERSIONED}
use Rattle.book.specs.Sheets.{against, Keyed}
use Rattle.book.specs.Says.{LIMIT, MOST, limit, capacity, book_of, is_key, count, spot, there, full, short, add_by, if_added, end_says, end_bytes, end_index, held_at, seeks, find_by, find_says, remove_by, remove_bytes_by, remove_index_by, remove_says, remove_bytes, remove_index}
use Rattle.book.specs.declared.Book.{Book}
use Rattle.book.specs.Types.{Added, MaybeSought, Removed, sought_at}
use Rattle.std.specs.Prelude.{None}
use Rattle.book.specs.declared.NotAdded.TheVariants as added

-- ---- the place of a key

module _ (b : Book) (index : List ℕ) where
  pub count_is : {a c : ℕ} → a ≡ min 256 (length index) → c ≡ min b.entries a → c ≡ count b index
  unfolding count capacity
  count_is p q = q ∙ ap (min b.entries) p

  pub count-lent : {n : ℕ} → n ≡ count b index → n ≤ length index
  unfolding count capacity
  count-lent e = omega arith

  module _ (k : ℕ) {n i : ℕ} (en : n ≡ count b index) (ei : i ≡ place index 0 n (k * 65536)) where
    pub spot_is : i ≡ spot b index k
    unfolding spot
    spot_is = let e : k * 65536 ≡ entry k 0 = omega arith in ei ∙ ap₂ (place index 0) en e

    pub there_is : pick (ltb i n) (eqb (key_of (get_or index i 0)) k) false ≡ there b index k
    unfolding there
    there_is = ap₂ (λ (j m : ℕ). pick (ltb j m) (eqb (key_of (get_or index j 0)) k) false) spot_is en

pub within : (i n : ℕ) (c : Bool) → pick (ltb i n) c false ≡ true → i < n
within i n c e = go (ltb i n) refl e
  where
    go : (a : Bool) → ltb i n ≡ a → pick a c false ≡ true → i < n
    go true p q = ltb-true i n p
    go false p q = absurd (true-false q refl)

-- a place that is that of a key stands in the index
pub place-lent : (b : Book) (index : List ℕ) (i k : ℕ) {n : ℕ} {t : Bool} → n ≡ count b index → t ≡ pick (ltb i n) (eqb (key_of (get_or index i 0)) k) false → t ≡ true → i < length index
place-lent b index i k {n} en et e =
    let l = within i n (eqb (key_of (get_or index i 0)) k) (sym et ∙ e) in
    omega (arith, count-lent b index en)

-- four bytes are a number of 32 bits
pub number_small : (l : List ℕ) → ((i : ℕ) → get_or l i 0 < 256) → (at : ℕ) → number l at 4 < 4294967296
number_small l h at = number-below l h at 4

-- a key leaves room for a start
pub key_small : {kind size source n : ℕ} → Keyed kind size source → n ≡ key kind size source → n * 65536 + 65536 ≤ 9223372036854775808
key_small k e = omega (arith, k.few_kinds, k.small, k.near)

-- ---- seeking

module _ (b : Book) (bytes index : List ℕ) (kind size source : ℕ) where
  abbrev k : ℕ
  k = key kind size source

  pub seeks_unkeyed : is_key kind size source ≡ false → None ≡ seeks b bytes index kind size source
  unfolding seeks
  seeks_unkeyed e =
      sym (ap (λ (a : Bool). pick a (pick (there b index k) (held_at bytes (spot b index k) (start_of (get_or index (spot b index k) 0))) None) None) e)

  pub seeks_missed : is_key kind size source ≡ true → there b index (key kind size source) ≡ false → None ≡ seeks b bytes index kind size source
  unfolding seeks
  seeks_missed e f =
      sym (ap₂ (λ (a c : Bool). pick a (pick c (held_at bytes (spot b index k) (start_of (get_or index (spot b index k) 0))) None) None) e f)

  pub seeks-held : is_key kind size source ≡ true → there b index (key kind size source) ≡ true → {i : ℕ} → i ≡ spot b index (key kind size source)
      → held_at bytes i (start_of (get_or index i 0)) ≡ seeks b bytes index kind size source
  unfolding seeks
  seeks-held e f {i} g =
      ap (λ (j : ℕ). held_at bytes j (start_of (get_or index j 0))) g
      ∙ sym (ap₂ (λ (a c : Bool). pick a (pick c (held_at bytes (spot b index k) (start_of (get_or index (spot b index k) 0))) None) None) e f)

-- what code has of it
module _ (b : Book) (bytes index : List ℕ) (kind size source : ℕ) {f t : Bool} {n i : ℕ} (k : ℕ) (ef : f ≡ is_key kind size source) (tf : f ≡ true) (ek : k ≡ key kind size source)
    (en : n ≡ count b index) (ei : i ≡ place index 0 n (k * 65536)) (et : t ≡ pick (ltb i n) (eqb (key_of (get_or index i 0)) k) false) where
  code_there : t ≡ there b index (key kind size source)
  code_there = et ∙ there_is b index k en ei ∙ ap (there b index) ek

  pub code_missed : t ≡ false → None ≡ seeks b bytes index kind size source
  code_missed e = seeks_missed b bytes index kind size source (sym ef ∙ tf) (sym code_there ∙ e)

  pub code_held : t ≡ true → {r : MaybeSought} → r ≡ held_at bytes i (start_of (get_or index i 0)) → r ≡ seeks b bytes index kind size source
  code_held e g = g ∙ seeks-held b bytes index kind size source (sym ef ∙ tf) (sym code_there ∙ e) (spot_is b index k en ei ∙ ap (spot b index) ek)

-- a sheet that the index has at place i, by the lengths of what is lent and of the sheet
module _ (bytes : List ℕ) (i start : ℕ) where
  pub held-short : length bytes < start + HEAD → None ≡ held_at bytes i start
  held-short h =
      sym (ap (λ (a : Bool). pick a None (pick (ltb (length bytes) (start + (4 + number bytes start 4))) None (sought_at i start (4 + number bytes start 4)))) (lt-ltb _ _ h))

  module _ {n : ℕ} (h : start + HEAD ≤ length bytes) (e : n ≡ number bytes start 4) where
    held_by : pick (ltb (length bytes) (start + (4 + n))) None (sought_at i start (4 + n)) ≡ held_at bytes i start
    held_by =
        ap (λ (m : ℕ). pick (ltb (length bytes) (start + (4 + m))) None (sought_at i start (4 + m))) e
        ∙ sym (ap (λ (a : Bool). pick a None (pick (ltb (length bytes) (start + (4 + number bytes start 4))) None (sought_at i start (4 + number bytes start 4)))) (le-ltb _ _ h))

    pub held_cut : length bytes < start + (4 + n) → None ≡ held_at bytes i start
    held_cut g = sym (ap (λ (a : Bool). pick a None (sought_at i start (4 + n))) (lt-ltb _ _ g)) ∙ held_by

    pub held_whole : start + (4 + n) ≤ length bytes → sought_at i start (4 + n) ≡ held_at bytes i start
    held_whole g = sym (ap (λ (a : Bool). pick a None (sought_at i start (4 + n))) (le-ltb _ _ g)) ∙ held_by
