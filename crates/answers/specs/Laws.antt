-- Answers that tell the same are the same (`answer_unique`, `yes_no_unique`, `checked_unique`): so a promise of what an answer tells leaves
-- one answer. The numbers of refusals are neither 0 nor those of findings (`number_apart`). Assumes nothing.
use Rattle.std.specs.Prelude.{ℕ, ◌<◌, ◌≡◌, refl, Bool, false, Result, Ok, Err, ⊤, eqb, leb}
use Rattle.std.proofs.Common.{sym, ap, ◌∙◌, arith}
use Rattle.std.proofs.Math.Option.{Option, none, some}
use Rattle.scan.specs.Scan.{pick}
use Rattle.answers.specs.Told.{number, place, Told, told, tell, answer_told, yes_no_told, checked_told, against}
use Rattle.answers.specs.declared.Refusal.{Refusal}
use Rattle.answers.specs.declared.Refusal.TheVariants.{Unreadable, UnknownSize, NotServed, NoDistance, SourceOut, NoTarget, TooMany, TargetOut, TargetIsSource, TargetAgain, BadDoors, SourceStopped, TargetStopped, TooLarge, NoRoom, NoPath}

-- the numbers of the judge's findings
unfoldable pub is_finding : ℕ → Bool
is_finding n = pick (leb 20 n) (leb n 25) false

-- the refusal of a number and a place
pub refusal : ℕ → ℕ → Refusal
refusal n p =
    pick (eqb n 10) Unreadable
    (pick (eqb n 1) UnknownSize
    (pick (eqb n 52) NotServed
    (pick (eqb n 9) NoDistance
    (pick (eqb n 2) SourceOut
    (pick (eqb n 3) NoTarget
    (pick (eqb n 4) TooMany
    (pick (eqb n 5) (TargetOut p)
    (pick (eqb n 6) (TargetIsSource p)
    (pick (eqb n 7) (TargetAgain p)
    (pick (eqb n 11) BadDoors
    (pick (eqb n 43) SourceStopped
    (pick (eqb n 44) TargetStopped
    (pick (eqb n 46) TooLarge
    (pick (eqb n 45) NoPath NoRoom))))))))))))))

pub refusal_back : (why : Refusal) → refusal (number why) (place why) ≡ why
unfolding refusal
refusal_back Unreadable = refl
refusal_back UnknownSize = refl
refusal_back NotServed = refl
refusal_back NoDistance = refl
refusal_back SourceOut = refl
refusal_back NoTarget = refl
refusal_back TooMany = refl
refusal_back (TargetOut p) = refl
refusal_back (TargetIsSource p) = refl
refusal_back (TargetAgain p) = refl
refusal_back BadDoors = refl
refusal_back SourceStopped = refl
refusal_back TargetStopped = refl
refusal_back TooLarge = refl
refusal_back NoRoom = refl
refusal_back NoPath = refl

-- the numbers of refusals: none is 0, and none is that of a finding, 20 to 25
pub number_apart : (why : Refusal) → (eqb (number why) 0 ≡ false) × (is_finding (number why) ≡ false)
unfolding is_finding
number_apart Unreadable = (refl, refl)
number_apart UnknownSize = (refl, refl)
number_apart NotServed = (refl, refl)
number_apart NoDistance = (refl, refl)
number_apart SourceOut = (refl, refl)
number_apart NoTarget = (refl, refl)
number_apart TooMany = (refl, refl)
number_apart (TargetOut p) = (refl, refl)
number_apart (TargetIsSource p) = (refl, refl)
number_apart (TargetAgain p) = (refl, refl)
number_apart BadDoors = (refl, refl)
number_apart SourceStopped = (refl, refl)
number_apart TargetStopped = (refl, refl)
number_apart TooLarge = (refl, refl)
number_apart NoRoom = (refl, refl)
number_apart NoPath = (refl, refl)

-- they have two digits at most
pub number-few : (why : Refusal) → number why < 100
number-few Unreadable = omega arith
number-few UnknownSize = omega arith
number-few NotServed = omega arith
number-few NoDistance = omega arith
number-few SourceOut = omega arith
number-few NoTarget = omega arith
number-few TooMany = omega arith
number-few (TargetOut p) = omega arith
number-few (TargetIsSource p) = omega arith
number-few (TargetAgain p) = omega arith
number-few BadDoors = omega arith
number-few SourceStopped = omega arith
number-few TargetStopped = omega arith
number-few TooLarge = omega arith
number-few NoRoom = omega arith
number-few NoPath = omega arith

pub number-some : (why : Refusal) → eqb (number why) 0 ≡ false
number-some why = (number_apart why).0

answer_of : Told ℕ → Result ℕ Refusal
answer_of (told n p v) = pick (eqb n 0) (Ok v) (Err (refusal n p))

answer_back : (a : Result ℕ Refusal) → answer_of (answer_told a) ≡ a
unfolding answer_of
answer_back (Ok v) = refl
answer_back (Err why) =
    ap (λ (b : Bool). pick b (Ok 0) (Err (refusal (number why) (place why)))) (number-some why)
    ∙ ap (λ (r : Refusal). Err r) (refusal_back why)

pub answer_unique : (a b : Result ℕ Refusal) → answer_told a ≡ answer_told b → a ≡ b
answer_unique a b e = sym (answer_back a) ∙ ap answer_of e ∙ answer_back b

yes_no_of : Told Bool → Result Bool Refusal
yes_no_of (told n p v) = pick (eqb n 0) (Ok v) (Err (refusal n p))

yes_no_back : (a : Result Bool Refusal) → yes_no_of (yes_no_told a) ≡ a
unfolding yes_no_of
yes_no_back (Ok b) = refl
yes_no_back (Err why) =
    ap (λ (b : Bool). pick b (Ok false) (Err (refusal (number why) (place why)))) (number-some why)
    ∙ ap (λ (r : Refusal). Err r) (refusal_back why)

pub yes_no_unique : (a b : Result Bool Refusal) → yes_no_told a ≡ yes_no_told b → a ≡ b
yes_no_unique a b e = sym (yes_no_back a) ∙ ap yes_no_of e ∙ yes_no_back b

-- what is told of a refusal, or of none, says which it was
against_of : Told ℕ → Option Refusal
against_of (told n p v) = pick (eqb n 0) none (some (refusal n p))

tell_back : (o : Option Refusal) → against_of (tell o 0 0) ≡ o
unfolding against_of
tell_back none = refl
tell_back (some why) = ap (λ (b : Bool). pick b none (some (refusal (number why) (place why)))) (number-some why) ∙ ap some (refusal_back why)

pub checked_against : (r : Result ⊤ Refusal) (o : Option Refusal) → checked_told r ≡ tell o 0 0 → against r ≡ o
checked_against r o e = sym (tell_back (against r)) ∙ ap against_of e ∙ tell_back o

pub checked_unique : (a b : Result ⊤ Refusal) → against a ≡ against b → a ≡ b
checked_unique (Ok x) (Ok y) e = refl
checked_unique (Ok x) (Err why) e = let z : ◌≡◌ {A = ℕ} 0 1 = cc in absurd (omega arith)
checked_unique (Err why) (Ok x) e = let z : ◌≡◌ {A = ℕ} 0 1 = cc in absurd (omega arith)
checked_unique (Err why) (Err other) e = ap (λ (r : Refusal). Err r) (inner e)
  where
    inner : {x y : Refusal} → some x ≡ some y → x ≡ y
    inner e = cc
