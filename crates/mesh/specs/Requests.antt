-- What stands against a request over a mesh, as code finds it: 1 to 7 first, room last (`request_refused`, `request_short`,
-- `request_granted`); what a request is that none of 1 to 7 stands against (`request_fine`), nor 52 where it is to be planned (`plan_fine`); the same of two ends and a bundle's room (`ends-fine`,
-- `ends_refused`, `ends-short`, `ends_granted`); and room for paths (`room_enough`).
-- Assumes nothing.
use Rattle.std.specs.Prelude.{ℕ, ◌*◌, ◌≤◌, ◌<◌, ◌≡◌, refl, Bool, true, false, not, ◌≢◌, List, [], ◌∷◌, ◌++◌, eqb, ltb, Result, Ok, Err, ⊤}
use Rattle.std.proofs.Common.{sym, ap, ◌∙◌, ltb-false}
use Rattle.std.proofs.Math.Option.{none, some}
use Rattle.std.proofs.lemmas.Bool.{not-false, eqb-false}
use Rattle.scan.specs.Scan.{at, nowhere, pick}
use Rattle.scan.specs.Laws.{true-false}
use Rattle.answers.specs.Order.{Fault, fault_at, first, refuse-at, refuse-none, refused_not, append-none, served_faults, pair_faults, end_faults, request_faults, room_faults}
use Rattle.answers.specs.Pairs.{pair_sound, size-known, room_refused, room-short, room_granted}
use Rattle.answers.specs.Told.{against}
use Rattle.answers.specs.declared.Refusal.{Refusal}
use Rattle.answers.specs.declared.Refusal.TheVariants.{UnknownSize, NotServed, TargetIsSource, NoRoom}
use Rattle.requests.specs.Sound.{Sound, sound}
use Rattle.paths.specs.Mesh.{Mesh, width}
use Rattle.mesh.specs.Kinds.{Kind}
use Rattle.mesh.specs.Says.{size_faults_in, served_faults_in, request_against, planned_against, bundle_against, short}

-- nothing of 1 to 7: there is the mesh, and the request is sound in it
pub record Fine (K : Kind) (n s : ℕ) (targets : List ℕ) : Type 0 where
  pub known : K.known n ≡ true
  pub sound : Sound (K.mesh n).relays (K.mesh n).links s targets

-- what stands against a plan whatever is lent for it: 1, 52, 2 to 7
abbrev pub planned_early : (K : Kind) (n s : ℕ) (targets : List ℕ) → List Fault
planned_early K n s targets = served_faults_in K n ++ request_faults (K.mesh n).relays (K.mesh n).links s targets

-- ---- a kind that is served

pub served_sound : (K : Kind) (n : ℕ) (l : List Fault) → first (served_faults_in K n ++ l) ≡ none → (K.known n ≡ true) × (K.planned ≡ true) × (first l ≡ none)
served_sound K n l e =
    let a = refuse-none (not (K.known n)) UnknownSize (first (served_faults (not K.planned) ++ l)) e in
    let b = refuse-none (not K.planned) NotServed (first l) a.1 in
    (not-false (K.known n) a.0, not-false K.planned b.0, b.1)

module _ (K : Kind) (n s : ℕ) (targets : List ℕ) where
  -- nothing of 1, 52, 2 to 7
  pub plan_fine : planned_against K n s targets false ≡ none → Fine K n s targets × (K.planned ≡ true)
  plan_fine e =
      let (k, p, r) = served_sound K n (request_faults (K.mesh n).relays (K.mesh n).links s targets) e in
      (record { known = k; sound = sound (K.mesh n).relays (K.mesh n).links s targets r }, p)

  -- the judge has nothing against it either
  pub plan_asked : planned_against K n s targets false ≡ none → request_against K n s targets false ≡ none
  plan_asked e =
      let (k, p, r) = served_sound K n (request_faults (K.mesh n).relays (K.mesh n).links s targets) e in
      sym (size-known (request_faults (K.mesh n).relays (K.mesh n).links s targets) (sym k) refl) ∙ r

  -- nothing of 1, 52, 2 to 8
  pub plan_passed : (room : Bool) → planned_against K n s targets room ≡ none → Fine K n s targets × (K.planned ≡ true) × (room ≡ false)
  plan_passed room e =
      let r = append-none (planned_early K n s targets) (room_faults room) e in
      let f = plan_fine r.0 in
      (f.0, f.1, (refuse-none room NoRoom none r.1).0)

module _ (K : Kind) (n s : ℕ) (targets : List ℕ) where
  -- 1 to 7
  abbrev early : List Fault
  early = size_faults_in K n ++ request_faults (K.mesh n).relays (K.mesh n).links s targets

  pub request_fine : request_against K n s targets false ≡ none → Fine K n s targets
  request_fine e =
      let r = append-none (size_faults_in K n) (request_faults (K.mesh n).relays (K.mesh n).links s targets) e in record {
        known = not-false (K.known n) (refuse-none (not (K.known n)) UnknownSize none r.0).0;
        sound = sound (K.mesh n).relays (K.mesh n).links s targets r.1;
      }

  -- nothing of 1 to 8
  pub request_passed : (room : Bool) → request_against K n s targets room ≡ none → Fine K n s targets × (room ≡ false)
  request_passed room e =
      let r = append-none early (room_faults room) e in
      (request_fine r.0, (refuse-none room NoRoom none r.1).0)

  -- ---- as code goes through them: what was checked, then room
  module _ {r : Result ⊤ Refusal} (e : against r ≡ request_against K n s targets false) where
    pub checked_fine : r ≡ Ok tt → Fine K n s targets
    checked_fine f = request_fine (sym e ∙ ap against f)

    pub request_refused : {why : Refusal} (room : Bool) → r ≡ Err why → some why ≡ request_against K n s targets room
    request_refused room f = room_refused early room e f

    -- the flag is what code has of the want of room
    pub request_short : {flag room : Bool} → r ≡ Ok tt → flag ≡ room → flag ≡ true → some NoRoom ≡ request_against K n s targets room
    request_short {flag} {room} f w t = room-short early room e f w t

    pub request_granted : {flag room : Bool} → r ≡ Ok tt → flag ≡ room → flag ≡ false → none ≡ request_against K n s targets room
    request_granted {flag} {room} f w t = room_granted early room e f w t

-- ---- two ends, and room for the bundle between them

-- nothing of 1, 52, 2, 5, 6: there is the mesh, it is planned, and the two are different relays of it
pub record Ends (K : Kind) (n s t : ℕ) : Type 0 where
  pub known : K.known n ≡ true
  pub planned : K.planned ≡ true
  pub source : s < (K.mesh n).relays
  pub target : t < (K.mesh n).relays
  pub other : t ≢ s

module _ (K : Kind) (n s t : ℕ) where
  -- 1, 52, 2, 5, 6
  abbrev ends_early : List Fault
  ends_early = served_faults_in K n ++ end_faults (K.mesh n).relays s t

  pub ends-fine : bundle_against K n s t false ≡ none → Ends K n s t
  ends-fine e =
      let (k, v, l) = served_sound K n (end_faults (K.mesh n).relays s t) e in
      let p = append-none (pair_faults (K.mesh n).relays s t) (fault_at (pick (eqb t s) (at 0) nowhere) TargetIsSource ∷ []) l in
      let r = pair_sound true (K.mesh n).relays s t p.0 in
      record { known = k; planned = v; source = r.1; target = r.2; other = eqb-false t s (apart (eqb t s) p.1) }
    where
      apart : (b : Bool) → refuse-at (pick b (at 0) nowhere) TargetIsSource none ≡ none → b ≡ false
      apart true e = refused_not e
      apart false e = refl

  -- nothing of 1, 52, 2, 5, 6, 8
  pub ends_passed : (room : Bool) → bundle_against K n s t room ≡ none → Ends K n s t × (room ≡ false)
  ends_passed room e =
      let r = append-none ends_early (room_faults room) e in
      (ends-fine r.0, (refuse-none room NoRoom none r.1).0)

  -- ---- as code goes through them: what was checked, then room
  module _ {r : Result ⊤ Refusal} (e : against r ≡ bundle_against K n s t false) where
    pub checked_ends : r ≡ Ok tt → Ends K n s t
    checked_ends f = ends-fine (sym e ∙ ap against f)

    pub ends_refused : {why : Refusal} (room : Bool) → r ≡ Err why → some why ≡ bundle_against K n s t room
    ends_refused room f = room_refused ends_early room e f

    pub ends-short : {flag room : Bool} → r ≡ Ok tt → flag ≡ room → flag ≡ true → some NoRoom ≡ bundle_against K n s t room
    ends-short {flag} {room} f w t = room-short ends_early room e f w t

    pub ends_granted : {flag room : Bool} → r ≡ Ok tt → flag ≡ room → flag ≡ false → none ≡ bundle_against K n s t room
    ends_granted {flag} {room} f w t = room_granted ends_early room e f w t

-- ---- room for paths

-- where neither of two is wanting, each of them is not
pub neither_wanting : {r : Bool} (a b : Bool) → r ≡ pick a true b → r ≡ false → (a ≡ false) × (b ≡ false)
neither_wanting true b e f = absurd (true-false e f)
neither_wanting false b e f = (refl, sym e ∙ f)

-- slices that are not short hold k paths and their counts
pub room_enough : (m : Mesh) (k places counts : ℕ) → short m k places counts ≡ false → (k * width m ≤ places) × (k ≤ counts)
room_enough m k places counts f =
    let r = neither_wanting (ltb places (k * width m)) (ltb counts k) refl f in
    (ltb-false places (k * width m) r.0, ltb-false counts k r.1)
