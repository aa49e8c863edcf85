-- What the functions of the way round ask, and the laws by which they keep the promise. Assumes nothing.
use Rattle.std.specs.Prelude.{ℕ, zero, suc, ◌-◌, ◌≤◌, ◌<◌, ◌≡◌, refl, Bool, true, false, ◌≢◌, List, Result, Ok, Err, ◌++◌, ltb, length}
use Rattle.std.proofs.Common.{sym, ap, ap₂, ◌∙◌, subst, inl, inr, arith, ltb-false, lt-ltb, le-ltb}
use Rattle.std.proofs.Math.Option.{Option, none, some}
use Rattle.scan.specs.Scan.{pick, among, has}
use Rattle.scan.specs.Laws.{true-false}
use Rattle.answers.specs.Told.{tell}
use Rattle.answers.specs.Order.{first, distance_faults, pair_faults, halt_faults, room_faults, append-none, append-fine, append_refused, refuse-none, refused_not}
use Rattle.answers.specs.Pairs.{pair-source, pair-target, pair-fine}
use Rattle.answers.specs.declared.Refusal.{Refusal}
use Rattle.answers.specs.declared.Refusal.TheVariants.{NoDistance, SourceOut, TargetOut, SourceStopped, TargetStopped, NoRoom, NoPath}
use Rattle.paths.specs.Mesh.{Mesh}
use Rattle.paths.specs.Ways.{Way, Shortest, distance}
use Rattle.two_parts.specs.Two as two
use Rattle.mesh.specs.Kinds.{Kind, CUBE, kind_of, known, planned, mesh_of}
use Rattle.mesh.specs.Laws.{known_case, planned_case, served-fine, unserved_refused}
use Rattle.mesh.specs.Says.{served_faults_in, distance_faults_in}
use Rattle.mesh.specs.Metric.{far_answered}
use Rattle.around_search.specs.Room.{label}
use Rattle.around_search.specs.Search.{Roomy, Starts, Sought, Searches, Searched, as_roomy}
use Rattle.around_search.specs.Trace.{Traces, Traced}
use Rattle.around.specs.Says.{ends_against, round_against, round_short, Rounded}

-- ---- what stands against a distance

module _ (k n s t : ℕ) {r : Bool} (e : r ≡ planned k n) (p : r ≡ true) where
  -- of a mesh that is planned: 9 and then the two ends decide
  far_by : (u : Bool) → (kind_of k).undistanced n ≡ u → first (distance_faults u ++ pair_faults (mesh_of k n).relays s t) ≡ first (distance_faults_in (kind_of k) n s t)
  far_by u z =
      ap (λ (b : Bool). first (distance_faults b ++ pair_faults (mesh_of k n).relays s t)) (sym z)
      ∙ served-fine k n (distance_faults ((kind_of k).undistanced n) ++ pair_faults (mesh_of k n).relays s t) e p

  pub far-cube : k ≡ CUBE → some NoDistance ≡ first (distance_faults_in (kind_of k) n s t)
  far-cube c = far_by true (planned_case k n (sym e ∙ p) (λ j (K : Kind). j ≡ CUBE → K.undistanced n ≡ true) (λ h z. refl) (λ h z. absurd (omega arith)) c)

  module _ (ne : k ≢ CUBE) where
    by_size : (kind_of k).undistanced n ≡ ltb 3 n
    by_size = planned_case k n (sym e ∙ p) (λ j (K : Kind). j ≢ CUBE → K.undistanced n ≡ ltb 3 n) (λ h z. absurd (z refl)) (λ h z. refl) ne

    pub far-large : 3 < n → some NoDistance ≡ first (distance_faults_in (kind_of k) n s t)
    far-large h = far_by true (by_size ∙ lt-ltb 3 n h)

    -- then the two ends decide
    pub far_ends : n ≤ 3 → {relays : ℕ} → relays ≡ (mesh_of k n).relays → first (pair_faults relays s t) ≡ first (distance_faults_in (kind_of k) n s t)
    far_ends small is = ap (λ (x : ℕ). first (pair_faults x s t)) is ∙ far_by false (by_size ∙ le-ltb 3 n small)

    module _ (small : n ≤ 3) {relays : ℕ} (is : relays ≡ (mesh_of k n).relays) where
      pub far-source : relays ≤ s → some SourceOut ≡ first (distance_faults_in (kind_of k) n s t)
      far-source h = pair-source relays s t {r = true} {known = true} refl refl h ∙ far_ends small is

      pub far-target : s < relays → relays ≤ t → some (TargetOut 0) ≡ first (distance_faults_in (kind_of k) n s t)
      far-target h g = pair-target relays s t {r = true} {known = true} refl refl h g ∙ far_ends small is

      pub far-fine : s < relays → t < relays → none ≡ first (distance_faults_in (kind_of k) n s t)
      far-fine h g = pair-fine relays s t {r = true} {known = true} refl refl h g ∙ far_ends small is

-- of one that is not: 1 or 52
pub far_unserved : (k n s t : ℕ) {why : Refusal} → some why ≡ first (served_faults_in (kind_of k) n) → some why ≡ first (distance_faults_in (kind_of k) n s t)
far_unserved k n s t e = unserved_refused (kind_of k) n (distance_faults ((kind_of k).undistanced n) ++ pair_faults (mesh_of k n).relays s t) e

-- ---- the ends

-- a distance is refused: so is a way round
pub far_refused : (K : Kind) (n s t : ℕ) (stopped : List ℕ) {why : Refusal} → some why ≡ first (distance_faults_in K n s t) → some why ≡ first (ends_against K n s t stopped)
far_refused K n s t stopped e = sym (append_refused (distance_faults_in K n s t) (halt_faults (has stopped s) (has stopped t)) (sym e))

-- where nothing stands against a distance, 43 and 44 decide
module _ (k n s t : ℕ) (stopped : List ℕ) (fine : none ≡ first (distance_faults_in (kind_of k) n s t)) where
  rest : {a b : Bool} → has stopped s ≡ a → has stopped t ≡ b → first (halt_faults a b) ≡ first (ends_against (kind_of k) n s t stopped)
  rest p q =
      ap₂ (λ (a b : Bool). first (halt_faults a b)) (sym p) (sym q)
      ∙ sym (append-fine (distance_faults_in (kind_of k) n s t) (halt_faults (has stopped s) (has stopped t)) (sym fine))

  pub source-stopped : has stopped s ≡ true → some SourceStopped ≡ first (ends_against (kind_of k) n s t stopped)
  source-stopped p = rest p refl

  pub target-stopped : has stopped s ≡ false → has stopped t ≡ true → some TargetStopped ≡ first (ends_against (kind_of k) n s t stopped)
  target-stopped p q = rest p q

  pub none-stopped : has stopped s ≡ false → has stopped t ≡ false → none ≡ first (ends_against (kind_of k) n s t stopped)
  none-stopped p q = rest p q

-- what code finds in the whole list
pub as_has : (l : List ℕ) (x : ℕ) {r b : Bool} → r ≡ among l 0 (length l) x → r ≡ b → has l x ≡ b
unfolding has
as_has l x e z = sym e ∙ z

-- ---- with room

module _ (k n s t : ℕ) (stopped : List ℕ) where
  pub round_refused : (room : Bool) {why : Refusal} → some why ≡ first (ends_against (kind_of k) n s t stopped) → some why ≡ round_against (kind_of k) n s t stopped room
  round_refused room e = sym (append_refused (ends_against (kind_of k) n s t stopped) (room_faults room) (sym e))

  pub round-short : {room : Bool} → none ≡ first (ends_against (kind_of k) n s t stopped) → room ≡ true → some NoRoom ≡ round_against (kind_of k) n s t stopped room
  round-short {room} e z = ap (λ (b : Bool). first (room_faults b)) (sym z) ∙ sym (append-fine (ends_against (kind_of k) n s t stopped) (room_faults room) (sym e))

  pub round-fine : {room : Bool} → none ≡ first (ends_against (kind_of k) n s t stopped) → room ≡ false → none ≡ round_against (kind_of k) n s t stopped room
  round-fine {room} e z = ap (λ (b : Bool). first (room_faults b)) (sym z) ∙ sym (append-fine (ends_against (kind_of k) n s t stopped) (room_faults room) (sym e))

module _ (m : Mesh) (room out : ℕ) where
  pub short-room : room < m.relays → round_short m room out ≡ true
  short-room h = ap (λ (b : Bool). pick b true (ltb out m.relays)) (lt-ltb room m.relays h)

  pub short-out : out < m.relays → round_short m room out ≡ true
  short-out h = ap (λ (b : Bool). pick (ltb room m.relays) true b) (lt-ltb out m.relays h) ∙ go (ltb room m.relays)
    where
      go : (b : Bool) → pick b true true ≡ true
      go true = refl
      go false = refl

  pub long_both : m.relays ≤ room → m.relays ≤ out → round_short m room out ≡ false
  long_both h g = ap₂ (λ (a b : Bool). pick a true b) (le-ltb room m.relays h) (le-ltb out m.relays g)

-- a number that is not 0
pub as_less : {r : ℕ} → (r ≡ 0 → ⊥) → r ≡ suc (r - 1)
as_less h = omega (arith, h)

-- ---- a sound request

-- what nothing stands against
pub record Sound (k n s t : ℕ) (stopped : List ℕ) : Type 0 where
  pub size : known k n ≡ true
  pub source : s < (mesh_of k n).relays
  pub target : t < (mesh_of k n).relays
  pub runs : has stopped s ≡ false
  pub ends : has stopped t ≡ false
  pub small : (mesh_of k n).relays ≤ 2048

-- a mesh whose distances are told is small
few : (k n : ℕ) → known k n ≡ true → (kind_of k).undistanced n ≡ false → (mesh_of k n).relays ≤ 2048
few k n h f =
    known_case k n h (λ j (K : Kind). K.undistanced n ≡ false → (K.mesh n).relays ≤ 2048)
    (λ c z. absurd (true-false refl z))
    (λ c z. by n (ltb-false 3 n z))
    (λ c z. absurd (true-false refl z))
    f
  where
    by : (n : ℕ) → n ≤ 3 → (two.two n).relays ≤ 2048
    by zero l = omega arith
    by (suc zero) l = omega arith
    by (suc (suc zero)) l = omega arith
    by (suc (suc (suc zero))) l = omega arith
    by (suc (suc (suc (suc n)))) l = absurd (omega arith)

pub sound : (k n s t : ℕ) (stopped : List ℕ) → none ≡ first (ends_against (kind_of k) n s t stopped) → Sound k n s t stopped
sound k n s t stopped e =
    let a = append-none (distance_faults_in (kind_of k) n s t) (halt_faults (has stopped s) (has stopped t)) (sym e) in
    let b = refuse-none (has stopped s) SourceStopped (first (halt_faults false (has stopped t))) a.1 in
    let c = refuse-none (has stopped t) TargetStopped none b.1 in
    let (w, z) = far_answered k n s t (distance (mesh_of k n) s t) (ap (λ (o : Option Refusal). tell o 0 (distance (mesh_of k n) s t)) a.0) in
    record { size = w.size; source = w.source; target = w.target; runs = b.0; ends = c.0; small = few k n w.size w.near }

-- ---- the search

-- a place for each relay in both slices
pub record Lent (k n room out : ℕ) : Type 0 where
  pub roomy : (mesh_of k n).relays ≤ room
  pub long : (mesh_of k n).relays ≤ out

module _ {k n s t : ℕ} {stopped : List ℕ} {places out links : ℕ} (S : Sound k n s t stopped) (L : Lent k n places out) (e : links ≡ (mesh_of k n).links) where
  pub ground : Roomy k n links places
  ground = record { there = S.size; linked = e; enough = L.roomy; small = omega (arith, S.small) }

  pub can_start : {relays : ℕ} → relays ≡ (mesh_of k n).relays → Starts relays t places
  can_start z = record { relay = omega (arith, S.target); enough = omega (arith, L.roomy); small = omega (arith, S.small) }

  pub can_search : {room : List ℕ} → length room ≡ places → Sought k n stopped t room 0 0 1 → Searches k n links s stopped t room
  can_search z R = record { ground = as_roomy ground z; relay = S.source; running = S.runs; begun = R }

  -- the label of the source is at most the number of relays
  pub can_trace : {room : List ℕ} {r d : ℕ} → length room ≡ places → Searched k n s stopped t room r → r ≡ suc d → Traces k n links s d stopped t room out
  can_trace {room} {r} {d} z F w =
      let (head, tail, R) = F.state in
      let (i, hi, y) = R.reached.held s S.source S.runs (omega (arith, F.is)) in
      record {
        ground = as_roomy ground z;
        relay = S.source;
        running = S.runs;
        labelled = sym F.is ∙ w;
        fits = omega (arith, R.reached.small i hi, ap (label room) y, F.is, R.reached.room, L.long);
        state = F.state;
      }

-- ---- the promise kept

pub nowhere : {m : Mesh} {s t : ℕ} {room out room' : List ℕ} → length room' ≡ length room → ((n : ℕ) → Way m n s t → ⊥) → Rounded none m s t room out (Err NoPath) room' out
nowhere l h = record {
  refused = λ why z. refused_not (sym z);
  sought = λ z. inl (record { none = h; told = refl; same = refl });
  as_long = (l, refl);
}

pub somewhere : {m : Mesh} {s t d : ℕ} {room out room' out' : List ℕ} → length room' ≡ length room → length out' ≡ length out → Shortest m s t d → Traced m s t d out out'
    → Rounded none m s t room out (Ok d) room' out'
somewhere {m} {s} {t} {d} l r h w = record {
  refused = λ why z. refused_not (sym z);
  sought = λ z. inr (record { hops = d; told = refl; least = h; written = w });
  as_long = (l, r);
}

pub refusal : {o : Option Refusal} {why : Refusal} (m : Mesh) (s t : ℕ) (room out : List ℕ) → some why ≡ o → Rounded o m s t room out (Err why) room out
refusal {o} {why} m s t room out e = record {
  refused = λ w z. (ap (λ (x : Refusal). Err x) (inner (e ∙ z)), refl, refl);
  sought = λ z. refused_not (e ∙ z);
  as_long = (refl, refl);
}
  where
    inner : {x y : Refusal} → some x ≡ some y → x ≡ y
    inner e = cc

pub as_round : {o o' : Option Refusal} {m : Mesh} {s t : ℕ} {room out room' out' : List ℕ} {r : Result ℕ Refusal} → o ≡ o' → Rounded o m s t room out r room' out'
    → Rounded o' m s t room out r room' out'
as_round {o} {o'} {m} {s} {t} {room} {out} {room'} {out'} {r} e R = subst (λ (x : Option Refusal). Rounded x m s t room out r room' out') e R
