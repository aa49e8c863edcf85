-- What the steps of opening a book ask and give. Assumes nothing.
use Rattle.std.specs.Prelude.{ℕ, ◌+◌, ◌≤◌, ◌<◌, ◌≡◌, Bool, true, false, List, length, take}
use Rattle.std.proofs.Math.Option.{Option, none, some}
use Rattle.sheet.specs.declared.Flaw.{Flaw}
use Rattle.book.specs.Ordered.{Rising}
use Rattle.book.specs.Sheets.{against}
use Rattle.book.specs.Open.{piece_length, enters, enters_index}
use Rattle.book.specs.Types.{Entered}
use Rattle.std.specs.Prelude.{Ok}
use Rattle.book.specs.declared.NotEntered.TheVariants as entered

abbrev pub is_none : Option Flaw → Bool
is_none none = true
is_none (some f) = false

abbrev pub fine : List ℕ → Bool
fine l = is_none (against l)

-- the bytes begin with a piece, and the first n places of the room rise
pub record Enterable (l : List ℕ) (at places n : ℕ) (room : List ℕ) : Type 0 where
  pub piece : 0 < piece_length at l
  pub few : n ≤ places
  pub lent : places ≤ length room
  pub rising : Rising (take n room)

-- what is told of it, and the places afterwards
pub record Kept (l : List ℕ) (at places n : ℕ) (was : List ℕ) (r : Entered) (is : List ℕ) : Type 0 where
  pub told : r ≡ enters places l (take n was)
  pub long : length is ≡ length was
  pub more : (m : ℕ) → r ≡ Ok m → (take m is ≡ enters_index at l (take n was)) × (m ≤ places) × Rising (take m is)
