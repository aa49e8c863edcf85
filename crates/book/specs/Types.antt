-- What a book's routines answer, by names. Assumes nothing.
use Rattle.std.specs.Prelude.{ℕ, Result, Option, Some}
use Rattle.book.specs.declared.Book.{Book}
use Rattle.book.specs.declared.NotAdded.{NotAdded}
use Rattle.book.specs.declared.NotOpened.{NotOpened}
use Rattle.book.specs.declared.NotEntered.{NotEntered}
use Rattle.book.specs.declared.Found.{Found}
use Rattle.book.specs.declared.Sought.{Sought}

abbrev pub Added : Type 0
Added = Result Book NotAdded

abbrev pub Removed : Type 0
Removed = Option Book

abbrev pub Opened : Type 0
Opened = Result Book NotOpened

abbrev pub Entered : Type 0
Entered = Result ℕ NotEntered

abbrev pub MaybeFound : Type 0
MaybeFound = Option Found

abbrev pub found_at : (start n : ℕ) → MaybeFound
found_at start n = Some (record { start = start; length = n })

abbrev pub MaybeSought : Type 0
MaybeSought = Option Sought

abbrev pub sought_at : (place start n : ℕ) → MaybeSought
sought_at place start n = Some (record { place = place; found = record { start = start; length = n } })
