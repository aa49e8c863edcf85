-- What a routine may refuse, in its order, is a list of faults: the first that holds is told (`first`), and of lists put together the first of the
-- one, or else of the other (`first-append`). A routine's list is put together of those below. That each is in the order of `table` is a
-- test of the numbers alone (`in_order`). Assumes nothing.
use Rattle.std.specs.Prelude.{ℕ, ◌≡◌, refl, Bool, true, false, List, [], ◌∷◌, ◌++◌, eqb, leb, ltb, length, get_or}
use Rattle.std.proofs.Common.{sym, ap, ◌∙◌, arith}
use Rattle.std.proofs.Math.Option.{Option, none, some}
use Rattle.scan.specs.Scan.{Spot, nowhere, at, pick, seek, among}
use Rattle.answers.specs.Told.{number}
use Rattle.answers.specs.declared.Refusal.{Refusal}
use Rattle.answers.specs.declared.Refusal.TheVariants.{Unreadable, UnknownSize, NotServed, NoDistance, SourceOut, NoTarget, TooMany, TargetOut, TargetIsSource, TargetAgain, BadDoors, SourceStopped, TargetStopped, TooLarge, NoRoom}

-- ---- faults

-- a test with its refusal; a search with the refusal of the place that it finds
pub data Fault : Type 0 where
  fault : Bool → Refusal → Fault
  fault_at : Spot → (ℕ → Refusal) → Fault

abbrev pub refuse : Bool → Refusal → Option Refusal → Option Refusal
refuse b why rest = pick b (some why) rest

abbrev pub refuse-at : Spot → (ℕ → Refusal) → Option Refusal → Option Refusal
refuse-at nowhere why rest = rest
refuse-at (at p) why rest = some (why p)

-- the first of the faults
abbrev pub first : List Fault → Option Refusal
first [] = none
first (fault b why ∷ l) = refuse b why (first l)
first (fault_at sp why ∷ l) = refuse-at sp why (first l)

-- the first of two refusals
abbrev pub before : Option Refusal → Option Refusal → Option Refusal
before none after = after
before (some why) after = some why

before-refuse : (b : Bool) (why : Refusal) (x y : Option Refusal) → refuse b why (before x y) ≡ before (refuse b why x) y
before-refuse true why x y = refl
before-refuse false why x y = refl

before_at : (sp : Spot) (why : ℕ → Refusal) (x y : Option Refusal) → refuse-at sp why (before x y) ≡ before (refuse-at sp why x) y
before_at nowhere why x y = refl
before_at (at p) why x y = refl

pub first-append : (a b : List Fault) → first (a ++ b) ≡ before (first a) (first b)
first-append [] b = refl
first-append (fault t why ∷ a) b = ap (refuse t why) (first-append a b) ∙ before-refuse t why (first a) (first b)
first-append (fault_at sp why ∷ a) b = ap (refuse-at sp why) (first-append a b) ∙ before_at sp why (first a) (first b)

-- ---- where nothing is refused

pub refused_not : {why : Refusal} {A : Type 0} → ◌≡◌ {A = Option Refusal} (some why) none → A
refused_not e = let z : ◌≡◌ {A = ℕ} 0 1 = cc in absurd (omega arith)

pub refuse-none : (b : Bool) (why : Refusal) (rest : Option Refusal) → refuse b why rest ≡ none → (b ≡ false) × (rest ≡ none)
refuse-none true why rest e = refused_not e
refuse-none false why rest e = (refl, e)

pub at_none : (sp : Spot) (why : ℕ → Refusal) (rest : Option Refusal) → refuse-at sp why rest ≡ none → (sp ≡ nowhere) × (rest ≡ none)
at_none nowhere why rest e = (refl, e)
at_none (at p) why rest e = refused_not e

before-none : (x y : Option Refusal) → before x y ≡ none → (x ≡ none) × (y ≡ none)
before-none none y e = (refl, e)
before-none (some why) y e = refused_not e

pub append-none : (a b : List Fault) → first (a ++ b) ≡ none → (first a ≡ none) × (first b ≡ none)
append-none a b e = before-none (first a) (first b) (sym (first-append a b) ∙ e)

-- of lists put together: what the first refuses, or else what the second does
pub append_refused : (a b : List Fault) {why : Refusal} → first a ≡ some why → first (a ++ b) ≡ some why
append_refused a b e = first-append a b ∙ ap (λ (o : Option Refusal). before o (first b)) e

pub append-fine : (a b : List Fault) → first a ≡ none → first (a ++ b) ≡ first b
append-fine a b e = first-append a b ∙ ap (λ (o : Option Refusal). before o (first b)) e

-- the same as code goes through two lists: what the first refuses is handed on, and else the second is asked
pub handed : (a b : List Fault) {why : Refusal} → some why ≡ first a → some why ≡ first (a ++ b)
handed a b e = sym (append_refused a b (sym e))

pub asked_next : (a b : List Fault) {o : Option Refusal} → none ≡ first a → o ≡ first b → o ≡ first (a ++ b)
asked_next a b e f = f ∙ sym (append-fine a b (sym e))

-- ---- the lists of which the routines' are put together

-- 10: what cannot be read
abbrev pub read_faults : (unreadable : Bool) → List Fault
read_faults unreadable = fault unreadable Unreadable ∷ []

-- 1: of a size alone
abbrev pub size_faults : (unknown : Bool) → List Fault
size_faults unknown = fault unknown UnknownSize ∷ []

-- 52: of a kind that a routine does not serve
abbrev pub served_faults : (unserved : Bool) → List Fault
served_faults unserved = fault unserved NotServed ∷ []

-- 9: of a size whose distances are not answered
abbrev pub distance_faults : (undistanced : Bool) → List Fault
distance_faults undistanced = fault undistanced NoDistance ∷ []

-- 2, 5: of a source and one target in a mesh of so many relays
abbrev pub pair_faults : (relays source target : ℕ) → List Fault
pair_faults relays s t = fault (leb relays s) SourceOut ∷ fault_at (pick (leb relays t) (at 0) nowhere) TargetOut ∷ []

-- 2, 5, 6: of a source and one target that is to be another relay
abbrev pub end_faults : (relays source target : ℕ) → List Fault
end_faults relays s t = pair_faults relays s t ++ fault_at (pick (eqb t s) (at 0) nowhere) TargetIsSource ∷ []

-- the target at place j is no relay, is the source, stands earlier in the list
abbrev pub is_out : (relays : ℕ) (targets : List ℕ) (j : ℕ) → Bool
is_out relays targets j = leb relays (get_or targets j 0)

abbrev pub is_same : (source : ℕ) (targets : List ℕ) (j : ℕ) → Bool
is_same s targets j = eqb (get_or targets j 0) s

abbrev pub is_again : (targets : List ℕ) (j : ℕ) → Bool
is_again targets j = among targets 0 j (get_or targets j 0)

-- the first place at which a test of the targets holds
abbrev pub first_at : (targets : List ℕ) (test : ℕ → Bool) → Spot
first_at targets test = seek test 0 (length targets)

-- 5, 6, 7: of a list of targets by themselves
abbrev pub target_faults : (relays source : ℕ) (targets : List ℕ) → List Fault
target_faults relays s targets =
    fault_at (first_at targets (is_out relays targets)) TargetOut
    ∷ fault_at (first_at targets (is_same s targets)) TargetIsSource
    ∷ fault_at (first_at targets (is_again targets)) TargetAgain
    ∷ []

-- 2 to 7: of a source and a list of targets in a mesh of so many relays, each with so many links
abbrev pub request_faults : (relays links source : ℕ) (targets : List ℕ) → List Fault
request_faults relays links s targets =
    fault (leb relays s) SourceOut
    ∷ fault (eqb (length targets) 0) NoTarget
    ∷ fault (ltb links (length targets)) TooMany
    ∷ target_faults relays s targets

-- 11: doors that the mesh does not have, or too few
abbrev pub door_faults : (bad : Bool) → List Fault
door_faults bad = fault bad BadDoors ∷ []

-- 43, 44: of a source and a target that have stopped
abbrev pub halt_faults : (source target : Bool) → List Fault
halt_faults source target = fault source SourceStopped ∷ fault target TargetStopped ∷ []

-- 46: of a size that is too large for export
abbrev pub export_faults : (large : Bool) → List Fault
export_faults large = fault large TooLarge ∷ []

-- 8: a lent slice that is too short
abbrev pub room_faults : (room : Bool) → List Fault
room_faults room = fault room NoRoom ∷ []

-- ---- their order

-- the numbers of the refusals in the order in which they are told
abbrev pub table : List ℕ
table = 10 ∷ 1 ∷ 52 ∷ 46 ∷ 9 ∷ 2 ∷ 3 ∷ 4 ∷ 5 ∷ 6 ∷ 7 ∷ 11 ∷ 43 ∷ 44 ∷ 8 ∷ []

-- the numbers that a list of faults tells, whatever its tests say
abbrev pub numbers : List Fault → List ℕ
numbers [] = []
numbers (fault b why ∷ l) = number why ∷ numbers l
numbers (fault_at sp why ∷ l) = number (why 0) ∷ numbers l

-- whether the one list is the other with some of its numbers left out
abbrev pub part_of : List ℕ → List ℕ → Bool
part_of [] all = true
part_of (n ∷ l) [] = false
part_of (n ∷ l) (m ∷ all) = pick (eqb n m) (part_of l all) (part_of (n ∷ l) all)

abbrev pub in_order : List Fault → Bool
in_order l = part_of (numbers l) table
