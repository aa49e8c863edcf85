-- What the routines of a book tell and leave, case by case, in what code has of it. Assumes nothing.
use Rattle.std.specs.Prelude.{ℕ, ◌+◌, ◌-◌, ◌*◌, ◌≤◌, ◌<◌, min, ◌≡◌, refl, Bool, true, false, List, eqb, ltb, leb, get_or, set}
use Rattle.std.proofs.Math.Path.{sym, ap, ap₂}
use Rattle.std.proofs.Common.{◌∙◌}
use Rattle.std.proofs.Math.Option.{Option, none, some}
use native.Mathlib.Omega.{arith}
use Rattle.std.proofs.Math.ListN.{length}
use Rattle.std.proofs.lemmas.List.Edits.{sets}
use borrow.Author.Tests.{lt-ltb, ltb-true, ltb-false, leb-false}
use Rattle.scan.specs.Scan.{pick}
use Rattle.scan.specs.Laws.{tests_same}
use Rattle.octets.specs.Big.{number}
use Rattle.sheet.specs.Format.{HEAD}
use Rattle.sheet.specs.declared.Flaw.{Flaw}
use Rattle.book_parts.specs.Place.{place, place_within}
use Rattle.book_parts.specs.Moved.{opened, closed}
use Rattle.book.specs.Ordered.{entry, key_of, start_of}
use Rattle.book.specs.Pieces.{key, key_at}
use Rattle.book.specs.Removed.{VERSIONED}
use Rattle.book.specs.Sheets.{against}
use Rattle.book.specs.Says.{limit, capacity, book_of, is_key, count, spot, there, full, short, add_by, if_added, end_says, end_bytes, end_index, seeks, find_by, find_says, remove_by, remove_bytes_by, remove_index_by, remove_says, remove_bytes, remove_index}
use Rattle.book.specs.declared.Book.{Book}
use Rattle.book.specs.Types.{Added, MaybeFound, MaybeSought, Removed, sought_at}
use Rattle.std.specs.Prelude.{Ok, Err, Some, None, MatchOption}
use Rattle.book.specs.declared.NotAdded.TheVariants as added
use Rattle.book_keys.specs.Cases.{spot_is, there_is}

pub full_is : (b : Book) (index : List ℕ) {a n : ℕ} → a ≡ min (length index) 256 → n ≡ count b index → leb a n ≡ full b index
unfolding full capacity
full_is b index p q = ap₂ leb (omega arith) q

module _ (b : Book) (bytes sheet : List ℕ) {room : ℕ} (e : room ≡ min (length bytes) 65536) where
  pub short_long : room < length sheet → true ≡ short b bytes sheet
  unfolding short limit
  short_long h = sym (lt-ltb (min 65536 (length bytes)) (b.used + length sheet) (omega arith))

  pub short-rest : length sheet ≤ room → ltb (room - length sheet) b.used ≡ short b bytes sheet
  unfolding short limit
  short-rest h =
      tests_same (ltb (room - length sheet) b.used) (ltb (min 65536 (length bytes)) (b.used + length sheet))
      (λ t. lt-ltb (min 65536 (length bytes)) (b.used + length sheet) (omega (arith, ltb-true (room - length sheet) b.used t)))
      (λ t. lt-ltb (room - length sheet) b.used (omega (arith, ltb-true (min 65536 (length bytes)) (b.used + length sheet) t)))

pub short_fits : (b : Book) (bytes sheet : List ℕ) → short b bytes sheet ≡ false → (b.used + length sheet ≤ 65536) × (b.used + length sheet ≤ length bytes)
unfolding short limit
short_fits b bytes sheet f = let h = ltb-false (min 65536 (length bytes)) (b.used + length sheet) f in (omega arith, omega arith)

-- what is sought and found stands in the index and in the bytes
pub record Whole (b : Book) (bytes index : List ℕ) (i start : ℕ) : Type 0 where
  pub in_index : i < count b index
  pub in_bytes : start + HEAD ≤ length bytes
  pub small : start < 65536

place_of : MaybeSought → ℕ
place_of (Some x) = x.place
place_of None = 0

starts : MaybeSought → ℕ
starts (Some x) = x.found.start
starts None = 0

no_sought : {i s n : ℕ} {A : Type 0} → ◌≡◌ {A = MaybeSought} None (sought_at i s n) → A
no_sought e = let z : ◌≡◌ {A = ℕ} 0 1 = cc in absurd (omega arith)

pub seeks-whole : (b : Book) (bytes index : List ℕ) (kind size source : ℕ) {i s n : ℕ} → seeks b bytes index kind size source ≡ sought_at i s n → Whole b bytes index i s
unfolding seeks there place_of starts
seeks-whole b bytes index kind size source {i} {s} {n} e =
    go (is_key kind size source) (ltb (spot b index k) (count b index)) (eqb (key_of (get_or index (spot b index k) 0)) k)
    (ltb (length bytes) (start_of (get_or index (spot b index k) 0) + HEAD)) (ltb (length bytes) (start_of (get_or index (spot b index k) 0) + (4 + number bytes (start_of (get_or index (spot b index k) 0)) 4)))
    refl refl refl refl refl e
  where
    k : ℕ
    k = key kind size source

    go : (a c d f g : Bool) → is_key kind size source ≡ a → ltb (spot b index k) (count b index) ≡ c → eqb (key_of (get_or index (spot b index k) 0)) k ≡ d
        → ltb (length bytes) (start_of (get_or index (spot b index k) 0) + HEAD) ≡ f → ltb (length bytes) (start_of (get_or index (spot b index k) 0) + (4 + number bytes (start_of (get_or index (spot b index k) 0)) 4)) ≡ g
        → pick a (pick (pick c d false) (pick f None (pick g None (sought_at (spot b index k) (start_of (get_or index (spot b index k) 0)) (4 + number bytes (start_of (get_or index (spot b index k) 0)) 4)))) None) None ≡ sought_at i s n
        → Whole b bytes index i s
    go true true true false false pa pc pd pf pg e =
        let same-i : spot b index k ≡ i = ap place_of e in
        let same_s : start_of (get_or index (spot b index k) 0) ≡ s = ap starts e in
        record { in_index = omega (arith, ltb-true (spot b index k) (count b index) pc); in_bytes = omega (arith, ltb-false (length bytes) (start_of (get_or index (spot b index k) 0) + HEAD) pf); small = omega arith }
    go true true true false true pa pc pd pf pg e = no_sought e
    go true true true true g pa pc pd pf pg e = no_sought e
    go true true false f g pa pc pd pf pg e = no_sought e
    go true false d f g pa pc pd pf pg e = no_sought e
    go false c d f g pa pc pd pf pg e = no_sought e

pub find_is : (b : Book) (bytes index : List ℕ) (kind size source : ℕ) {r : MaybeSought} {q : MaybeFound} → r ≡ seeks b bytes index kind size source
    → MatchOption r (q ≡ None) (λ x. q ≡ Some x.found) → q ≡ find_says b bytes index kind size source
unfolding find_says
find_is b bytes index kind size source {r} {q} e h = go r h ∙ ap find_by e
  where
    go : (r : MaybeSought) → MatchOption r (q ≡ None) (λ x. q ≡ Some x.found) → q ≡ find_by r
    go (Some x) h = h
    go None h = h

pub found_is : (b : Book) (bytes index : List ℕ) (kind size source : ℕ) {r v : MaybeSought} → r ≡ seeks b bytes index kind size source → r ≡ v → find_by v ≡ find_says b bytes index kind size source
unfolding find_says
found_is b bytes index kind size source e f = ap find_by (sym f ∙ e)

-- ---- what is told and left

module _ (b : Book) (bytes index sheet : List ℕ) where
  -- of an answer, with what it leaves
  abbrev pub Put : (r : Added) (bytes' index' : List ℕ) → Type 0
  Put r bytes' index' = (r ≡ end_says b bytes index sheet) × (bytes' ≡ end_bytes b bytes index sheet) × (index' ≡ end_index b bytes index sheet)

  put_by : (r : Added) → end_says b bytes index sheet ≡ r
      → Put r (if_added r (sets bytes b.used sheet) bytes) (if_added r (opened index (spot b index (key_at sheet)) (count b index) (entry (key_at sheet) b.used)) index)
  unfolding end_bytes end_index
  put_by r e = (
    sym e,
    ap (λ (a : Added). if_added a (sets bytes b.used sheet) bytes) (sym e),
    ap (λ (a : Added). if_added a (opened index (spot b index (key_at sheet)) (count b index) (entry (key_at sheet) b.used)) index) (sym e),
  )

  pub put-flawed : {f : Flaw} → against sheet ≡ some f → Put ((Err (added.Flawed f))) bytes index
  unfolding end_says
  put-flawed {f} e = put_by ((Err (added.Flawed f))) (ap (λ (o : Option Flaw). add_by o (there b index (key_at sheet)) (full b index) (short b bytes sheet) (book_of (b.used + length sheet) (count b index + 1))) e)

  module _ (e : against sheet ≡ none) where
    says_by : {x y z : Bool} → there b index (key_at sheet) ≡ x → full b index ≡ y → short b bytes sheet ≡ z
        → end_says b bytes index sheet ≡ add_by none x y z (book_of (b.used + length sheet) (count b index + 1))
    unfolding end_says
    says_by {x} {y} {z} p q r =
        ap₂ (λ (o : Option Flaw) (t : Bool). add_by o t (full b index) (short b bytes sheet) (book_of (b.used + length sheet) (count b index + 1))) e p
        ∙ ap₂ (λ (u v : Bool). add_by none x u v (book_of (b.used + length sheet) (count b index + 1))) q r

    pub put-there : there b index (key_at sheet) ≡ true → Put (Err added.There) bytes index
    put-there p = put_by (Err added.There) (says_by p refl refl)

    pub put_full : there b index (key_at sheet) ≡ false → full b index ≡ true → Put (Err added.Full) bytes index
    put_full p q = put_by (Err added.Full) (says_by p q refl)

    pub put-short : there b index (key_at sheet) ≡ false → full b index ≡ false → short b bytes sheet ≡ true → Put (Err added.NoRoom) bytes index
    put-short p q r = put_by (Err added.NoRoom) (says_by p q r)

    pub put_done : there b index (key_at sheet) ≡ false → full b index ≡ false → short b bytes sheet ≡ false → {n i x : ℕ} {bytes' index' : List ℕ}
        → n ≡ count b index → i ≡ spot b index (key_at sheet) → x ≡ entry (key_at sheet) b.used → bytes' ≡ sets bytes b.used sheet → index' ≡ opened index i n x
        → Put (Ok (book_of (b.used + length sheet) (n + 1))) bytes' index'
    put_done p q r {n} {i} {x} en ei ex eb ex' =
        let d = put_by (Ok (book_of (b.used + length sheet) (count b index + 1))) (says_by p q r) in (
          ap (λ (m : ℕ). Ok (book_of (b.used + length sheet) (m + 1))) en ∙ d.0,
          eb ∙ d.1,
          ex' ∙ ap₂ (λ (j m : ℕ). opened index j m x) ei en ∙ ap (opened index (spot b index (key_at sheet)) (count b index)) ex ∙ d.2,
        )

  pub full-room : full b index ≡ false → count b index < length index
  unfolding full capacity count
  full-room f = let h = leb-false (min 256 (length index)) (min b.entries (min 256 (length index))) f in omega arith

-- what code has of it
module _ (b : Book) (index sheet : List ℕ) (k : ℕ) {n i : ℕ} (ek : k ≡ key_at sheet) (en : n ≡ count b index) (ei : i ≡ place index 0 n (k * 65536)) where
  pub code_spot : i ≡ spot b index (key_at sheet)
  code_spot = spot_is b index k en ei ∙ ap (spot b index) ek

  pub code_stands : {t u : Bool} → t ≡ pick (ltb i n) (eqb (key_of (get_or index i 0)) k) false → t ≡ u → there b index (key_at sheet) ≡ u
  code_stands et e = sym (et ∙ there_is b index k en ei ∙ ap (there b index) ek) ∙ e

  pub code_place : i ≤ n
  code_place = omega (arith, place_within index (k * 65536) n)

module _ (b : Book) (bytes index : List ℕ) (kind size source : ℕ) where
  abbrev pub Gone : (r : Removed) (bytes' index' : List ℕ) → Type 0
  Gone r bytes' index' = (r ≡ remove_says b bytes index kind size source) × (bytes' ≡ remove_bytes b bytes index kind size source) × (index' ≡ remove_index b bytes index kind size source)

  pub gone-missing : seeks b bytes index kind size source ≡ None → Gone None bytes index
  unfolding remove_says remove_bytes remove_index
  gone-missing e = (ap (remove_by b.used (count b index)) (sym e), ap (remove_bytes_by bytes) (sym e), ap (remove_index_by index (count b index)) (sym e))

  pub gone_done : {i s m n : ℕ} {bytes' index' : List ℕ} → seeks b bytes index kind size source ≡ sought_at i s m → n ≡ count b index
      → bytes' ≡ set bytes (s + VERSIONED) 0 → index' ≡ closed index i n → Gone (Some (book_of b.used (n - 1))) bytes' index'
  unfolding remove_says remove_bytes remove_index
  gone_done {i} {s} {m} {n} e en eb ei = (
    ap (λ (c : ℕ). Some (book_of b.used (c - 1))) en ∙ ap (remove_by b.used (count b index)) (sym e),
    eb ∙ ap (remove_bytes_by bytes) (sym e),
    ei ∙ ap (closed index i) en ∙ ap (remove_index_by index (count b index)) (sym e),
  )
