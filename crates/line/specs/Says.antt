-- What the reader of a line tells, and what it leaves in the places lent for the targets: 10 where a text states no request, 8 where there are fewer
-- places than targets, else the request. Assumes nothing.
use Rattle.std.specs.Prelude.{ℕ, Bool, true, false, List, [], ◌++◌, Result, Ok, Err, ltb, length, drop}
use Rattle.std.proofs.Math.Option.{Option, none, some}
use Rattle.answers.specs.Order.{Fault, first, read_faults, room_faults}
use Rattle.answers.specs.Told.{Told, told, tell, leaves}
use Rattle.answers.specs.declared.Refusal.{Refusal}
use Rattle.line.specs.Text.{Request}
use Rattle.line.specs.declared.Asked.{Asked}

-- what is told of a request beside its targets: kind, size, source and how many targets
pub data Head : Type 0 where
  head : (kind size source count : ℕ) → Head

abbrev pub no_head : Head
no_head = head 0 0 0 0

abbrev pub line_told : Result Asked Refusal → Told Head
line_told (Ok a) = told 0 0 (head a.mesh.kind a.mesh.size a.source a.count)
line_told (Err why) = tell (some why) no_head no_head

-- of the request that a text states, if it states one
abbrev pub unread : Option Request → Bool
unread none = true
unread (some q) = false

abbrev pub targets_of : Option Request → List ℕ
targets_of none = []
targets_of (some q) = q.targets

abbrev pub head_of : Option Request → Head
head_of none = no_head
head_of (some q) = head q.kind q.size q.source (length q.targets)

-- a line that cannot be read, too few places
abbrev pub line_faults : (unreadable room : Bool) → List Fault
line_faults unreadable room = read_faults unreadable ++ room_faults room

-- what stands against reading a line into so many places
abbrev pub line_against : Option Request → ℕ → Option Refusal
line_against q places = first (line_faults (unread q) (ltb places (length (targets_of q))))

abbrev pub asked_told : Option Request → ℕ → Told Head
asked_told q places = tell (line_against q places) no_head (head_of q)

-- the targets at the front of what was there
abbrev pub asked_leaves : Option Request → List ℕ → List ℕ
asked_leaves q was = leaves (line_against q (length was)) was (targets_of q ++ drop (length (targets_of q)) was)
