-- What the answers of a book's routines tell: the number, path and place of the specification, and what comes beside them. Assumes nothing.
use Rattle.std.specs.Prelude.{ℕ}
use Rattle.sheet.specs.Says.{flaw_number, flaw_path, flaw_place}
use Rattle.book.specs.declared.Book.{Book}
use Rattle.book.specs.Types.{Added, MaybeFound, Opened, Removed}
use Rattle.std.specs.Prelude.{Ok, Err, Some, None}
use Rattle.book.specs.declared.NotAdded.{NotAdded}
use Rattle.book.specs.declared.NotAdded.TheVariants as added
use Rattle.book.specs.declared.NotOpened.{NotOpened}
use Rattle.book.specs.declared.NotOpened.TheVariants as opened

-- of a refusal to add
abbrev pub reason_number : NotAdded → ℕ
reason_number (added.Flawed f) = flaw_number f
reason_number added.There = 39
reason_number added.Full = 40
reason_number added.NoRoom = 8

abbrev pub reason_path : NotAdded → ℕ
reason_path (added.Flawed f) = flaw_path f
reason_path added.There = 0
reason_path added.Full = 0
reason_path added.NoRoom = 0

abbrev pub reason_place : NotAdded → ℕ
reason_place (added.Flawed f) = flaw_place f
reason_place added.There = 0
reason_place added.Full = 0
reason_place added.NoRoom = 0

abbrev pub added_number : Added → ℕ
added_number (Ok b) = 0
added_number (Err why) = reason_number why

abbrev pub added_path : Added → ℕ
added_path (Ok b) = 0
added_path (Err why) = reason_path why

abbrev pub added_place : Added → ℕ
added_place (Ok b) = 0
added_place (Err why) = reason_place why

abbrev pub added_book : Added → Book → Book
added_book (Ok b) was = b
added_book (Err why) was = was

abbrev pub found_number : MaybeFound → ℕ
found_number (Some f) = 0
found_number None = 51

abbrev pub found_start : MaybeFound → ℕ
found_start (Some f) = f.start
found_start None = 0

abbrev pub found_length : MaybeFound → ℕ
found_length (Some f) = f.length
found_length None = 0

abbrev pub removed_number : Removed → ℕ
removed_number (Some b) = 0
removed_number None = 51

abbrev pub removed_book : Removed → Book → Book
removed_book (Some b) was = b
removed_book None was = was

-- of a refusal to open
abbrev pub unopened_number : NotOpened → ℕ
unopened_number (opened.Bad s) = 53
unopened_number opened.Full = 40

abbrev pub unopened_place : NotOpened → ℕ
unopened_place (opened.Bad s) = s
unopened_place opened.Full = 0

abbrev pub opened_number : Opened → ℕ
opened_number (Ok b) = 0
opened_number (Err why) = unopened_number why

abbrev pub opened_place : Opened → ℕ
opened_place (Ok b) = 0
opened_place (Err why) = unopened_place why

abbrev pub opened_book : Opened → Book → Book
opened_book (Ok b) was = b
opened_book (Err why) was = was
