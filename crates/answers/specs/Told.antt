-- What each answer tells: the specification's number and place, and a value. 0, place 0 and the value where all is well; of a
-- refusal its number and its place, and no value (0, or no).
use Rattle.std.specs.Prelude.{ℕ, Bool, false, List, Result, Ok, Err, ⊤}
use Rattle.std.proofs.Math.Option.{Option, none, some}
use Rattle.answers.specs.declared.Refusal.{Refusal}
use Rattle.answers.specs.declared.Refusal.TheVariants.{Unreadable, UnknownSize, NotServed, NoDistance, SourceOut, NoTarget, TooMany, TargetOut, TargetIsSource, TargetAgain, BadDoors, SourceStopped, TargetStopped, TooLarge, NoRoom, NoPath}

-- the number of a refusal
abbrev pub number : Refusal → ℕ
number Unreadable = 10
number UnknownSize = 1
number NotServed = 52
number NoDistance = 9
number SourceOut = 2
number NoTarget = 3
number TooMany = 4
number (TargetOut p) = 5
number (TargetIsSource p) = 6
number (TargetAgain p) = 7
number BadDoors = 11
number SourceStopped = 43
number TargetStopped = 44
number TooLarge = 46
number NoRoom = 8
number NoPath = 45

-- the place that is told with it
abbrev pub place : Refusal → ℕ
place Unreadable = 0
place UnknownSize = 0
place NotServed = 0
place NoDistance = 0
place SourceOut = 0
place NoTarget = 0
place TooMany = 0
place (TargetOut p) = p
place (TargetIsSource p) = p
place (TargetAgain p) = p
place BadDoors = 0
place SourceStopped = 0
place TargetStopped = 0
place TooLarge = 0
place NoRoom = 0
place NoPath = 0

-- number, place and value
pub data Told (A : Type 0) : Type 0 where
  told : ℕ → ℕ → A → Told A

abbrev pub number_of : {A : Type 0} → Told A → ℕ
number_of (told n p v) = n

abbrev pub place_of : {A : Type 0} → Told A → ℕ
place_of (told n p v) = p

abbrev pub value_of : {A : Type 0} → Told A → A
value_of (told n p v) = v

-- what is told of a value, where nothing stands against it; `nothing` stands in its place in a refusal
abbrev pub tell : {A : Type 0} → Option Refusal → A → A → Told A
tell none nothing v = told 0 0 v
tell (some why) nothing v = told (number why) (place why) nothing

-- what a lent slice holds afterwards: a refusal leaves it as it was
abbrev pub leaves : Option Refusal → List ℕ → List ℕ → List ℕ
leaves none was now = now
leaves (some why) was now = was

-- what stands against a call, or nothing
abbrev pub against : {T : Type 0} → Result T Refusal → Option Refusal
against (Ok x) = none
against (Err why) = some why

abbrev pub answer_told : Result ℕ Refusal → Told ℕ
answer_told (Ok v) = tell none 0 v
answer_told (Err why) = tell (some why) 0 0

abbrev pub yes_no_told : Result Bool Refusal → Told Bool
yes_no_told (Ok b) = tell none false b
yes_no_told (Err why) = tell (some why) false false

-- number and place of what was checked; there is no value
abbrev pub checked_told : Result ⊤ Refusal → Told ℕ
checked_told r = tell (against r) 0 0

-- 0, or what is told of the reason
abbrev pub of_reason : {T R : Type 0} → (R → ℕ) → Result T R → ℕ
of_reason told-by (Ok x) = 0
of_reason told-by (Err why) = told-by why
