-- The plain map that a book answers as: from a kind, a size and a source to a sheet, with how many sheets it has and how many bytes they are, those added less those removed (`Plain`). Calls one
-- after another, what each is answered by the map (`plain_answer`) and by a book (`answer`), and both over a sequence (`plain_tells`, `tells`). Assumes nothing.
use Rattle.std.specs.Prelude.{ℕ, ◌+◌, ◌-◌, Bool, true, false, List, [], ◌∷◌, eqb, ltb, leb, length, take, drop}
use Rattle.std.proofs.Math.Option.{Option, none, some}
use Rattle.scan.specs.Scan.{pick}
use Rattle.sheet.specs.Format.{kind_at, size_at, source_at}
use Rattle.sheet.specs.Says.{flaw_number, flaw_path, flaw_place}
use Rattle.sheet.specs.declared.Flaw.{Flaw}
use Rattle.book.specs.Pieces.{of}
use Rattle.book.specs.Sheets.{against}
use Rattle.book.specs.Says.{book_of, add_says, add_bytes, add_index, find_says, remove_says, remove_bytes, remove_index, close_book, close_bytes, close_index}
use Rattle.book.specs.Told.{added_number, added_path, added_place, added_book, removed_number, removed_book}
use Rattle.book.specs.declared.Book.{Book}
use Rattle.book.specs.Types.{MaybeFound}
use Rattle.std.specs.Prelude.{Some, None}

pub data Call : Type 0 where
  add : (sheet : List ℕ) → Call
  find : (kind size source : ℕ) → Call
  remove : (kind size source : ℕ) → Call
  close : Call

-- number, path and place, and the sheet that is found
pub data Answer : Type 0 where
  tell : (number path place : ℕ) (sheet : List ℕ) → Answer

abbrev pub number : ℕ → Answer
number n = tell n 0 0 []

-- ---- the map

abbrev pub Map : Type 0
Map = (kind size source : ℕ) → Option (List ℕ)

abbrev pub nothing : Map
nothing kind size source = none

-- with a sheet more: it is the one of its own kind, size and source
abbrev pub with : Map → (sheet : List ℕ) → Map
with m sheet kind size source = pick (of kind size source sheet) (some sheet) (m kind size source)

-- without the sheet of k, z, s
abbrev pub less : Map → (k z s : ℕ) → Map
less m k z s kind size source = pick (pick (eqb k kind) (pick (eqb z size) (eqb s source) false) false) none (m kind size source)

pub record Plain : Type 0 where
  pub at : Map
  pub entries : ℕ
  pub used : ℕ

abbrev pub empty : Plain
empty = record { at = nothing; entries = 0; used = 0 }

abbrev pub has : Option (List ℕ) → Bool
has none = false
has (some p) = true

-- ---- what the map answers

-- what the reader has against a sheet, 39, 40, 8
abbrev pub add_told : Option Flaw → (there full short : Bool) → Answer
add_told (some f) t u v = tell (flaw_number f) (flaw_path f) (flaw_place f) []
add_told none t u v = pick t (number 39) (pick u (number 40) (pick v (number 8) (number 0)))

-- the one where nothing stands against it, else the other
abbrev pub settled : {A : Type 0} → Option Flaw → (there full short : Bool) → A → A → A
settled (some f) t u v x y = y
settled none t u v x y = pick t y (pick u y (pick v y x))

-- a sheet, or 51
abbrev pub find_told : Option (List ℕ) → Answer
find_told none = number 51
find_told (some p) = tell 0 0 0 p

abbrev pub remove_told : Option (List ℕ) → Answer
remove_told none = number 51
remove_told (some p) = number 0

-- what comes of the sheet, or where there is none
abbrev pub if_some : {A : Type 0} → Option (List ℕ) → (List ℕ → A) → A → A
if_some none f y = y
if_some (some p) f y = f p

-- of a book with so many places and so many bytes
module _ (places bytes : ℕ) (m : Plain) where
  abbrev pub standing : (sheet : List ℕ) → Bool
  standing sheet = has (m.at (kind_at sheet) (size_at sheet) (source_at sheet))

  unfoldable pub plain_answer : Call → Answer
  plain_answer (add sheet) = add_told (against sheet) (standing sheet) (leb places m.entries) (ltb bytes (m.used + length sheet))
  plain_answer (find kind size source) = find_told (m.at kind size source)
  plain_answer (remove kind size source) = remove_told (m.at kind size source)
  plain_answer close = number 0

  unfoldable pub plain_after : Call → Plain
  plain_after (add sheet) =
      settled (against sheet) (standing sheet) (leb places m.entries) (ltb bytes (m.used + length sheet))
      (record { at = with m.at sheet; entries = m.entries + 1; used = m.used + length sheet }) m
  plain_after (find kind size source) = m
  plain_after (remove kind size source) = if_some (m.at kind size source) (λ p. record { at = less m.at kind size source; entries = m.entries - 1; used = m.used - length p }) m
  plain_after close = m

unfoldable pub plain_tells : (places bytes : ℕ) → Plain → List Call → List Answer
plain_tells places bytes m [] = []
plain_tells places bytes m (c ∷ cs) = plain_answer places bytes m c ∷ plain_tells places bytes (plain_after places bytes m c) cs

-- ---- what a book answers

-- head, bytes and index
pub record State : Type 0 where
  pub head : Book
  pub bytes : List ℕ
  pub index : List ℕ

-- the bytes that are found
abbrev pub found_told : List ℕ → MaybeFound → Answer
found_told bytes (Some f) = tell 0 0 0 (take f.length (drop f.start bytes))
found_told bytes None = number 51

module _ (st : State) where
  unfoldable pub answer : Call → Answer
  answer (add sheet) = let a = add_says st.head st.bytes st.index sheet in tell (added_number a) (added_path a) (added_place a) []
  answer (find kind size source) = found_told st.bytes (find_says st.head st.bytes st.index kind size source)
  answer (remove kind size source) = number (removed_number (remove_says st.head st.bytes st.index kind size source))
  answer close = number 0

  unfoldable pub step : Call → State
  step (add sheet) = record {
    head = added_book (add_says st.head st.bytes st.index sheet) st.head;
    bytes = add_bytes st.head st.bytes st.index sheet;
    index = add_index st.head st.bytes st.index sheet;
  }
  step (find kind size source) = st
  step (remove kind size source) = record {
    head = removed_book (remove_says st.head st.bytes st.index kind size source) st.head;
    bytes = remove_bytes st.head st.bytes st.index kind size source;
    index = remove_index st.head st.bytes st.index kind size source;
  }
  step close = record {
    head = close_book st.head st.bytes st.index;
    bytes = close_bytes st.head st.bytes st.index;
    index = close_index st.head st.bytes st.index;
  }

unfoldable pub tells : State → List Call → List Answer
tells st [] = []
tells st (c ∷ cs) = answer st c ∷ tells (step st c) cs

-- the map after the same calls
unfoldable pub plain_end : (places bytes : ℕ) → Plain → List Call → Plain
plain_end places bytes m [] = m
plain_end places bytes m (c ∷ cs) = plain_end places bytes (plain_after places bytes m c) cs

unfoldable pub after : State → List Call → State
after st [] = st
after st (c ∷ cs) = after (step st c) cs

-- an empty book, over any slices
abbrev pub fresh : (bytes index : List ℕ) → State
fresh bytes index = record { head = book_of 0 0; bytes = bytes; index = index }
