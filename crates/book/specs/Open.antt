-- A book opened again from its used bytes alone: piece by piece, each live one that is accepted put into an index (`open_from`). A piece that is none, or whose key is there already, is told
-- with its start, and so is an index that is full. Assumes nothing.
use Rattle.std.specs.Prelude.{ℕ, zero, suc, ◌+◌, List, [], ◌∷◌, eqb, ltb, leb, length, take, drop}
use Rattle.std.proofs.Math.Option.{Option, none, some}
use Rattle.std.proofs.lemmas.List.Edits.{sets}
use Rattle.scan.specs.Scan.{pick}
use Rattle.sheet.specs.Format.{HEAD}
use Rattle.sheet.specs.declared.Flaw.{Flaw}
use Rattle.book.specs.Ordered.{entry, insert, below, hit}
use Rattle.book.specs.Pieces.{length_of, live, key_at}
use Rattle.book.specs.Sheets.{against}
use Rattle.book.specs.Says.{LIMIT, capacity, book_of}
use Rattle.book.specs.Types.{Entered, Opened}
use Rattle.std.specs.Prelude.{Ok, Err}
use Rattle.book.specs.declared.NotOpened.TheVariants as opened
use Rattle.book.specs.declared.NotEntered.TheVariants as entered

-- n where nothing stands against a sheet, else 0
abbrev pub fine_length : Option Flaw → ℕ → ℕ
fine_length none n = n
fine_length (some f) n = 0

-- the length of the piece that the bytes begin with, which stand at the place `at`; 0 where they begin with none: a removed one is known by its version and its length alone
unfoldable pub piece_length : (at : ℕ) (l : List ℕ) → ℕ
piece_length at l =
    pick (ltb (length l) HEAD) 0
    (pick (ltb (length_of l) HEAD) 0
    (pick (ltb (length l) (length_of l)) 0
    (pick (ltb LIMIT (at + length_of l)) 0
    (pick (live l) (fine_length (against (take (length_of l) l)) (length_of l)) (length_of l)))))

-- ---- one piece put into the index

-- how many places the index has then
unfoldable pub enters : (places : ℕ) (l index : List ℕ) → Entered
enters places l index =
    pick (live l)
    (pick (hit (key_at l) index (below (entry (key_at l) 0) index)) (Err entered.Again) (pick (leb places (length index)) (Err entered.Full) (Ok (length index + 1))))
    (Ok (length index))

unfoldable pub enters_index : (at : ℕ) (l index : List ℕ) → List ℕ
enters_index at l index = pick (live l) (insert (entry (key_at l) at) index) index

-- ---- all of them

pub data Opening : Type 0 where
  done : (index : List ℕ) → Opening
  bad : (start : ℕ) → Opening
  full : Opening

-- what comes of a piece that begins at `at`
abbrev pub go_on : (at : ℕ) → Entered → Opening → Opening
go_on at (Ok n) rest = rest
go_on at (Err entered.Again) rest = bad at
go_on at (Err entered.Full) rest = full

-- in so many steps at most
unfoldable pub open_from : (steps places at : ℕ) (l index : List ℕ) → Opening
open_from zero places at l index = done index
open_from (suc steps) places at [] index = done index
open_from (suc steps) places at (x ∷ l) index =
    pick (eqb (piece_length at (x ∷ l)) 0) (bad at)
    (go_on at (enters places (x ∷ l) index)
    (open_from steps places (at + piece_length at (x ∷ l)) (drop (piece_length at (x ∷ l)) (x ∷ l)) (enters_index at (x ∷ l) index)))

unfoldable pub opening : (bytes index : List ℕ) → Opening
opening bytes index = open_from (length bytes) (capacity index) 0 bytes []

-- ---- what is told and left

abbrev pub opened_by : (used : ℕ) → Opening → Opened
opened_by used (done index) = Ok (book_of used (length index))
opened_by used (bad start) = (Err (opened.Bad start))
opened_by used full = (Err opened.Full)

abbrev pub left_by : List ℕ → Opening → List ℕ
left_by index (done l) = sets index 0 l
left_by index (bad start) = index
left_by index full = index

unfoldable pub open_says : (bytes index : List ℕ) → Opened
open_says bytes index = opened_by (length bytes) (opening bytes index)

unfoldable pub open_index : (bytes index : List ℕ) → List ℕ
open_index bytes index = left_by index (opening bytes index)
