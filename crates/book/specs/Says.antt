-- What a book's routines tell and leave, of any head and any slices. No more bytes are used than 65,536, and no more places of the index than 256: `limit` and `capacity` are
-- what of the slices lent can be used, and `count` how many places are looked at. Bytes beyond the used and places beyond those are not looked at, and stay. Assumes nothing.
use Rattle.std.specs.Prelude.{ℕ, ◌+◌, ◌-◌, min, Bool, false, List, map, eqb, ltb, leb, length, get_or, set, take}
use Rattle.std.proofs.Math.Option.{Option, none, some}
use Rattle.std.proofs.lemmas.List.Edits.{sets}
use Rattle.scan.specs.Scan.{pick}
use Rattle.octets.specs.Big.{number}
use Rattle.sheet.specs.Format.{HEAD}
use Rattle.sheet.specs.declared.Flaw.{Flaw}
use Rattle.book_parts.specs.Place.{place}
use Rattle.book_parts.specs.Moved.{opened, closed}
use Rattle.book.specs.Ordered.{entry, key_of, start_of}
use Rattle.book.specs.Pieces.{SOURCES, key, key_at}
use Rattle.book.specs.Sheets.{against}
use Rattle.book.specs.Removed.{VERSIONED}
use Rattle.book.specs.Closed.{kept, slid}
use Rattle.book.specs.declared.Book.{Book}
use Rattle.book.specs.Types.{Added, MaybeFound, MaybeSought, Removed, sought_at}
use Rattle.std.specs.Prelude.{Ok, Err, Some, None}
use Rattle.book.specs.declared.NotAdded.TheVariants as added

abbrev pub LIMIT : ℕ
LIMIT = 65536

abbrev pub MOST : ℕ
MOST = 256

unfoldable pub limit : (bytes : List ℕ) → ℕ
limit bytes = min LIMIT (length bytes)

unfoldable pub capacity : (index : List ℕ) → ℕ
capacity index = min MOST (length index)

abbrev pub book_of : (used entries : ℕ) → Book
book_of used entries = record { used = used; entries = entries }

-- ---- the place of a key

-- a kind, a size and a source that a sheet can have
abbrev pub is_key : (kind size source : ℕ) → Bool
is_key kind size source = pick (eqb kind 0) false (pick (ltb 2 kind) false (pick (ltb 255 size) false (ltb source SOURCES)))

module _ (b : Book) (index : List ℕ) where
  unfoldable pub count : ℕ
  count = min b.entries (capacity index)

  -- where it stands, or is put in
  unfoldable pub spot : (key : ℕ) → ℕ
  spot key = place index 0 count (entry key 0)

  -- whether it stands there
  unfoldable pub there : (key : ℕ) → Bool
  there key = pick (ltb (spot key) count) (eqb (key_of (get_or index (spot key) 0)) key) false

-- ---- closing up

-- the bytes in use that are looked at
unfoldable pub in_use : (b : Book) (bytes : List ℕ) → List ℕ
in_use b bytes = take (min b.used (limit bytes)) bytes

-- live sheets move down in their order, and the bytes from the new end on stay; each place of the index tells where its sheet then starts
module _ (b : Book) (bytes index : List ℕ) where
  unfoldable pub close_book : Book
  close_book = book_of (length (kept (in_use b bytes))) (count b index)

  unfoldable pub close_bytes : List ℕ
  close_bytes = sets bytes 0 (kept (in_use b bytes))

  unfoldable pub close_index : List ℕ
  close_index = sets index 0 (map (slid (in_use b bytes)) (take (count b index) index))

-- ---- adding

-- the first of what stands against it, or the head afterwards
abbrev pub add_by : Option Flaw → (there full short : Bool) → Book → Added
add_by (some f) t u v b = (Err (added.Flawed f))
add_by none t u v b = pick t (Err added.There) (pick u (Err added.Full) (pick v (Err added.NoRoom) (Ok b)))

-- the one where it is added, else the other
abbrev pub if_added : {A : Type 0} → Added → A → A → A
if_added (Ok b) x y = x
if_added ((Err (added.Flawed f))) x y = y
if_added (Err added.There) x y = y
if_added (Err added.Full) x y = y
if_added (Err added.NoRoom) x y = y

-- no place is left in the index
unfoldable pub full : (b : Book) (index : List ℕ) → Bool
full b index = leb (capacity index) (count b index)

-- no room is left after the last sheet, removed ones counted
unfoldable pub short : (b : Book) (bytes sheet : List ℕ) → Bool
short b bytes sheet = ltb (limit bytes) (b.used + length sheet)

-- behind the last sheet
module _ (b : Book) (bytes index sheet : List ℕ) where
  unfoldable pub end_says : Added
  end_says = add_by (against sheet) (there b index (key_at sheet)) (full b index) (short b bytes sheet) (book_of (b.used + length sheet) (count b index + 1))

  unfoldable pub end_bytes : List ℕ
  end_bytes = if_added end_says (sets bytes b.used sheet) bytes

  unfoldable pub end_index : List ℕ
  end_index = if_added end_says (opened index (spot b index (key_at sheet)) (count b index) (entry (key_at sheet) b.used)) index

-- the one where there was no room, else the other
abbrev pub if_no_room : {A : Type 0} → Added → A → A → A
if_no_room (Err added.NoRoom) x y = x
if_no_room (Ok b) x y = y
if_no_room ((Err (added.Flawed f))) x y = y
if_no_room (Err added.There) x y = y
if_no_room (Err added.Full) x y = y

-- no room is left with the live sheets alone
unfoldable pub crammed : (b : Book) (bytes sheet : List ℕ) → Bool
crammed b bytes sheet = ltb (limit bytes) (length (kept (in_use b bytes)) + length sheet)

-- where there is no room behind the last sheet the book is closed up first, if there is room then
module _ (b : Book) (bytes index sheet : List ℕ) where
  unfoldable pub add_says : Added
  add_says =
      if_no_room (end_says b bytes index sheet) (pick (crammed b bytes sheet) (Err added.NoRoom) (end_says (close_book b bytes index) (close_bytes b bytes index) (close_index b bytes index) sheet))
      (end_says b bytes index sheet)

  unfoldable pub add_bytes : List ℕ
  add_bytes =
      if_no_room (end_says b bytes index sheet) (pick (crammed b bytes sheet) bytes (end_bytes (close_book b bytes index) (close_bytes b bytes index) (close_index b bytes index) sheet))
      (end_bytes b bytes index sheet)

  unfoldable pub add_index : List ℕ
  add_index =
      if_no_room (end_says b bytes index sheet) (pick (crammed b bytes sheet) index (end_index (close_book b bytes index) (close_bytes b bytes index) (close_index b bytes index) sheet))
      (end_index b bytes index sheet)

-- ---- finding and removing

-- a sheet that the index has at place i, from `start` on: none where the bytes lent do not hold it whole
abbrev pub held_at : (bytes : List ℕ) (i start : ℕ) → MaybeSought
held_at bytes i start =
    pick (ltb (length bytes) (start + HEAD)) None
    (pick (ltb (length bytes) (start + (4 + number bytes start 4))) None (sought_at i start (4 + number bytes start 4)))

abbrev pub find_by : MaybeSought → MaybeFound
find_by (Some x) = Some x.found
find_by None = None

abbrev pub remove_by : (used entries : ℕ) → MaybeSought → Removed
remove_by used entries (Some x) = Some (book_of used (entries - 1))
remove_by used entries None = None

abbrev pub remove_bytes_by : List ℕ → MaybeSought → List ℕ
remove_bytes_by bytes (Some x) = set bytes (x.found.start + VERSIONED) 0
remove_bytes_by bytes None = bytes

abbrev pub remove_index_by : List ℕ → ℕ → MaybeSought → List ℕ
remove_index_by index entries (Some x) = closed index x.place entries
remove_index_by index entries None = index

module _ (b : Book) (bytes index : List ℕ) (kind size source : ℕ) where
  unfoldable pub seeks : MaybeSought
  seeks =
      pick (is_key kind size source)
      (pick (there b index (key kind size source)) (held_at bytes (spot b index (key kind size source)) (start_of (get_or index (spot b index (key kind size source)) 0))) None)
      None

  unfoldable pub find_says : MaybeFound
  find_says = find_by seeks

  unfoldable pub remove_says : Removed
  remove_says = remove_by b.used (count b index) seeks

  unfoldable pub remove_bytes : List ℕ
  remove_bytes = remove_bytes_by bytes seeks

  unfoldable pub remove_index : List ℕ
  remove_index = remove_index_by index (count b index) seeks
