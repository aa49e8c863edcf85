-- What is told of a size, and of a source and one target, test by test as code goes through them. Assumes nothing.
--
-- A flag is what code has of a test: r ≡ test, and r is true or false. `fact_known`, `fact_unknown`: a fact of a size. `pair-unknown`,
-- `pair-source`, `pair-target`, `pair-fine`: the first fault of a pair, and `pair_sound`: what a pair is that has none. `told_refused`, `told-fine`: what
-- is told where a list of faults was looked through. `room_refused`, `room-short`, `room_granted`: the same list with want of room told last, and
-- `lent_refused`, `lent-short`, `lent-fine`: what is then told and left in a lent slice.
use Rattle.std.specs.Prelude.{ℕ, ◌≤◌, ◌<◌, ◌≡◌, refl, Bool, true, false, not, List, ◌++◌, Result, Ok, Err, leb}
use Rattle.std.proofs.Common.{sym, ap, ◌∙◌, le-leb, leb-false}
use Rattle.std.proofs.Math.Option.{Option, none, some}
use Rattle.std.proofs.lemmas.Bool.{lt-leb, not-false}
use Rattle.scan.specs.Scan.{pick, at, nowhere}
use Rattle.answers.specs.Order.{Fault, first, before, first-append, refuse-none, refused_not, refuse, refuse-at, size_faults, pair_faults, room_faults}
use Rattle.answers.specs.Told.{told, tell, leaves, against}
use Rattle.answers.specs.declared.Refusal.{Refusal}
use Rattle.answers.specs.declared.Refusal.TheVariants.{UnknownSize, SourceOut, TargetOut, NoRoom}

-- ---- a size

pub fact_known : {r known : Bool} (fact : ℕ) → r ≡ known → r ≡ true → told 0 0 fact ≡ tell (first (size_faults (not known))) 0 fact
fact_known fact e t = ap (λ (k : Bool). tell (first (size_faults (not k))) 0 fact) (sym t ∙ e)

pub fact_unknown : {r known : Bool} (fact : ℕ) → r ≡ known → r ≡ false → told 1 0 0 ≡ tell (first (size_faults (not known))) 0 fact
fact_unknown fact e f = ap (λ (k : Bool). tell (first (size_faults (not k))) 0 fact) (sym f ∙ e)

-- a list of faults after the size's, where the size is known or not
module _ (l : List Fault) {r known : Bool} (e : r ≡ known) where
  pub size-unknown : r ≡ false → some UnknownSize ≡ first (size_faults (not known) ++ l)
  size-unknown f = ap (λ (k : Bool). first (size_faults (not k) ++ l)) (sym f ∙ e)

  pub size-known : r ≡ true → first l ≡ first (size_faults (not known) ++ l)
  size-known t = ap (λ (k : Bool). first (size_faults (not k) ++ l)) (sym t ∙ e)

-- ---- the first fault of a pair

module _ (relays s t : ℕ) {r known : Bool} (e : r ≡ known) where
  pub pair-unknown : r ≡ false → some UnknownSize ≡ first (size_faults (not known) ++ pair_faults relays s t)
  pair-unknown f = size-unknown (pair_faults relays s t) e f

  pub pair-source : r ≡ true → relays ≤ s → some SourceOut ≡ first (size_faults (not known) ++ pair_faults relays s t)
  pair-source k h = let p : some SourceOut ≡ first (pair_faults relays s t) = simp (le-leb relays s h) in p ∙ size-known (pair_faults relays s t) e k

  pub pair-target : r ≡ true → s < relays → relays ≤ t → some (TargetOut 0) ≡ first (size_faults (not known) ++ pair_faults relays s t)
  pair-target k h g = let p : some (TargetOut 0) ≡ first (pair_faults relays s t) = simp (lt-leb relays s h, le-leb relays t g) in p ∙ size-known (pair_faults relays s t) e k

  pub pair-fine : r ≡ true → s < relays → t < relays → none ≡ first (size_faults (not known) ++ pair_faults relays s t)
  pair-fine k h g = let p : none ≡ first (pair_faults relays s t) = simp (lt-leb relays s h, lt-leb relays t g) in p ∙ size-known (pair_faults relays s t) e k

-- what a pair is that has no fault
pub pair_sound : (known : Bool) (relays s t : ℕ) → first (size_faults (not known) ++ pair_faults relays s t) ≡ none → (known ≡ true) × (s < relays) × (t < relays)
pair_sound known relays s t e =
    let a = refuse-none (not known) UnknownSize (first (pair_faults relays s t)) e in
    let b = refuse-none (leb relays s) SourceOut (refuse-at (pick (leb relays t) (at 0) nowhere) TargetOut none) a.1 in
    (not-false known a.0, leb-false relays s b.0, leb-false relays t (within (leb relays t) b.1))
  where
    within : (t : Bool) → refuse-at (pick t (at 0) nowhere) TargetOut none ≡ none → t ≡ false
    within true e = refused_not e
    within false e = refl

-- ---- what is told of what was checked

module _ {A T : Type 0} {o : Option Refusal} {r : Result T Refusal} (nothing v : A) where
  pub told_refused : {why : Refusal} → r ≡ Err why → against r ≡ o → tell (some why) nothing nothing ≡ tell o nothing v
  told_refused e p = ap (λ (o : Option Refusal). tell o nothing v) (sym (ap against e) ∙ p)

  pub told-fine : {w : A} {x : T} → r ≡ Ok x → against r ≡ o → w ≡ v → told 0 0 w ≡ tell o nothing v
  told-fine e p q = ap (told 0 0) q ∙ ap (λ (o : Option Refusal). tell o nothing v) (sym (ap against e) ∙ p)

-- ---- with a lent slice

module _ (l : List Fault) (room : Bool) where
  -- want of room is told only where nothing else stands against it
  pub room-last : first (l ++ room_faults room) ≡ before (first l) (refuse room NoRoom none)
  room-last = first-append l (room_faults room)

  module _ {T : Type 0} {r : Result T Refusal} (e : against r ≡ first l) where
    after-room : {c : Result T Refusal} → r ≡ c → before (against c) (refuse room NoRoom none) ≡ first (l ++ room_faults room)
    after-room f = ap (λ (o : Option Refusal). before o (refuse room NoRoom none)) (sym (ap against f) ∙ e) ∙ sym room-last

    pub room_refused : {why : Refusal} → r ≡ Err why → some why ≡ first (l ++ room_faults room)
    room_refused f = after-room f

    -- the flag is what code has of the want of room
    pub room-short : {flag : Bool} {x : T} → r ≡ Ok x → flag ≡ room → flag ≡ true → some NoRoom ≡ first (l ++ room_faults room)
    room-short f w t = ap (λ (b : Bool). refuse b NoRoom none) (sym t ∙ w) ∙ after-room f

    pub room_granted : {flag : Bool} {x : T} → r ≡ Ok x → flag ≡ room → flag ≡ false → none ≡ first (l ++ room_faults room)
    room_granted f w t = ap (λ (b : Bool). refuse b NoRoom none) (sym t ∙ w) ∙ after-room f

  -- v is told and `now` is left, unless a fault holds; `was` is what was lent
  module _ (v : ℕ) (was now : List ℕ) where
    abbrev Lent : Option Refusal → Type 0
    Lent o = (tell o 0 v ≡ tell (first (l ++ room_faults room)) 0 v) × (leaves o was now ≡ leaves (first (l ++ room_faults room)) was now)

    lent : {o : Option Refusal} → o ≡ first (l ++ room_faults room) → Lent o
    lent e = (ap (λ (o : Option Refusal). tell o 0 v) e, ap (λ (o : Option Refusal). leaves o was now) e)

    module _ {T : Type 0} {r : Result T Refusal} (e : against r ≡ first l) where
      pub lent_refused : {why : Refusal} → r ≡ Err why → Lent (some why)
      lent_refused f = lent (room_refused e f)

      pub lent-short : {x : T} → r ≡ Ok x → room ≡ true → Lent (some NoRoom)
      lent-short f w = lent (room-short e f refl w)

      pub lent-fine : {x : T} → r ≡ Ok x → room ≡ false → Lent none
      lent-fine f w = lent (room_granted e f refl w)
