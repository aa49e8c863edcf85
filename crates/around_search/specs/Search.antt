-- The search as code does it, in the working room: what each function asks and gives. Assumes nothing.
use Rattle.std.specs.Prelude.{ℕ, suc, ◌+◌, ◌≤◌, ◌<◌, ◌≡◌, true, false, ◌⊎◌, List, length, eqb}
use Rattle.std.proofs.Common.{sym, ap, ◌∙◌, subst, inl, inr, arith, eq-eqb}
use Rattle.scan.specs.Scan.{has}
use Rattle.scan.specs.Laws.{true-false}
use Rattle.paths.specs.Ways.{Way, Shortest}
use Rattle.mesh.specs.Kinds.{kind_of, known, mesh_of}
use Rattle.mesh.specs.Laws.{known-near}
use Rattle.around_search.specs.Avoid.{avoiding}
use Rattle.around_search.specs.Labels.{Reached, count-some, found, lost, pass, next, enter, begin}
use Rattle.around_search.specs.Room.{half, label, queued, Entered, Cleared, cleared_halt, cleared_zero}

-- the search in a room
pub record Sought (kind n : ℕ) (stopped : List ℕ) (t : ℕ) (room : List ℕ) (head done tail : ℕ) : Type 0 where
  pub reached : Reached (mesh_of kind n) ((kind_of kind).near n) stopped t (label room) (queued room) head done tail

-- a mesh that there is, and a room for it of so many places
pub record Roomy (kind n links places : ℕ) : Type 0 where
  pub there : known kind n ≡ true
  pub linked : links ≡ (mesh_of kind n).links
  pub enough : (mesh_of kind n).relays ≤ places
  pub small : (mesh_of kind n).relays + 1 < half

-- ---- one relay

-- relay v is reached, with this label, and tail is the queue's end
pub record Visits (v l tail : ℕ) (room : List ℕ) : Type 0 where
  pub relay : v < length room
  pub narrow : v < half
  pub labelled : l < half
  pub room_for : label room v ≡ 0 → tail < length room

abbrev pub Visited : (v l tail : ℕ) (room room' : List ℕ) (r : ℕ) → Type 0
Visited v l tail room room' r = ((label room v ≡ 0) × Entered v l tail room room' × (r ≡ tail + 1)) ⊎ ((0 < label room v) × (room' ≡ room) × (r ≡ tail))

module _ {kind n links : ℕ} {stopped : List ℕ} {t : ℕ} where
  -- so many relays have been reached as there are places for
  pub tail_fits : {places : ℕ} {room : List ℕ} {head done tail : ℕ} → Roomy kind n links places → Sought kind n stopped t room head done tail → tail ≤ (mesh_of kind n).relays
  tail_fits G R = omega (arith, R.reached.room)

  -- the next label
  pub next-label : {places : ℕ} {room : List ℕ} {head done tail : ℕ} → Roomy kind n links places → Sought kind n stopped t room head done tail → head < tail
      → suc (label room (queued room head)) < half
  next-label {places} {room} {head} G R h = omega (arith, R.reached.small head h, R.reached.room, G.small)

  -- the link `done` of the relay at the head can be followed
  pub can_visit : {room : List ℕ} {head done tail : ℕ} → Roomy kind n links (length room) → Sought kind n stopped t room head done tail → head < tail → done < links
      → {v l : ℕ} → v ≡ (kind_of kind).near n (queued room head) done → l ≡ suc (label room (queued room head)) → Visits v l tail room
  can_visit {room} {head} {done} {tail} G R h d {v} {l} ev el =
      let L = known-near kind n G.there in
      let b = L.below (queued room head) done (R.reached.relay head h) (omega (arith, G.linked)) in
      record {
        relay = omega (arith, b, G.enough);
        narrow = omega (arith, b, G.small);
        labelled = omega (arith, next-label G R h);
        room_for = λ z. omega (arith, R.reached.room, G.enough, count-some (λ r. eqb (label room r) 0) (mesh_of kind n).relays ((kind_of kind).near n (queued room head) done) b (eq-eqb _ 0 (ap (label room) (sym ev) ∙ z)));
      }

-- ---- the links of one relay

-- the links of the relay x at the head are followed, with this label; `done` of them have been
pub record Spreading (kind n links : ℕ) (stopped : List ℕ) (t : ℕ) (room : List ℕ) (head done tail x l : ℕ) : Type 0 where
  pub sought : Sought kind n stopped t room head done tail
  pub before : head < tail
  pub within : done ≤ links
  pub front : x ≡ queued room head
  pub same : l ≡ suc (label room x)

-- none of them yet
pub begun : {kind n : ℕ} (links : ℕ) {stopped : List ℕ} {t : ℕ} {room : List ℕ} {head tail x l : ℕ} → Sought kind n stopped t room head 0 tail → head < tail → x ≡ queued room head → l ≡ suc (label room x)
    → Spreading kind n links stopped t room head 0 tail x l
begun links R h e z = record { sought = R; before = h; within = omega arith; front = e; same = z }

pub as_roomy : {kind n links a b : ℕ} → Roomy kind n links a → b ≡ a → Roomy kind n links b
as_roomy G e = record { there = G.there; linked = G.linked; enough = omega (arith, G.enough); small = G.small }

module _ {kind n links : ℕ} {stopped : List ℕ} {t : ℕ} where
  -- the next link can be followed
  pub visits : {room : List ℕ} {head done tail x l v : ℕ} → Roomy kind n links (length room) → Spreading kind n links stopped t room head done tail x l → done < links → v ≡ (kind_of kind).near n x done → Visits v l tail room
  visits {room} {head} {done} G S d e =
      can_visit G S.sought S.before d (e ∙ ap (λ (y : ℕ). (kind_of kind).near n y done) S.front) (S.same ∙ ap (λ (y : ℕ). suc (label room y)) S.front)

  -- one link more
  pub spread_more : {room room' : List ℕ} {head done tail x l v r : ℕ} → Roomy kind n links (length room) → Spreading kind n links stopped t room head done tail x l → done < links
      → v ≡ (kind_of kind).near n x done → Visited v l tail room room' r → Spreading kind n links stopped t room' head (done + 1) r x l
  spread_more {room} {room'} {head} {done} {tail} {x} {l} {v} {r} G S d ev (inr (p, e, z)) =
      subst (λ (k : List ℕ). Spreading kind n links stopped t k head (done + 1) r x l) (sym e)
      (subst (λ (k : ℕ). Spreading kind n links stopped t room head (done + 1) k x l) (sym z)
      (record {
        sought = subst (λ (k : ℕ). Sought kind n stopped t room head k tail) (omega arith) (record { reached = pass (known-near kind n G.there) S.sought.reached S.before (omega (arith, G.linked)) (omega (arith, ap (label room) (ev ∙ ap (λ (y : ℕ). (kind_of kind).near n y done) S.front))) });
        before = S.before;
        within = omega arith;
        front = S.front;
        same = S.same;
      }))
  spread_more {room} {room'} {head} {done} {tail} {x} {l} {v} {r} G S d ev (inl (f, E, z)) =
      subst (λ (k : ℕ). Spreading kind n links stopped t room' head (done + 1) k x l) (sym z) (record {
        sought = subst (λ (k : ℕ). Sought kind n stopped t room' head k (tail + 1)) (omega arith) (subst (λ (k : ℕ). Sought kind n stopped t room' head (suc done) k) (omega arith) entered);
        before = omega (arith, S.before);
        within = omega arith;
        front = S.front ∙ sym (E.others head (λ y. omega (arith, S.before)));
        same = S.same ∙ ap suc (sym (E.old x (λ y. omega (arith, ap (label room) y, ap (label room) S.front, S.sought.reached.positive head S.before))));
      })
    where
      w : v ≡ (kind_of kind).near n (queued room head) done
      w = ev ∙ ap (λ (y : ℕ). (kind_of kind).near n y done) S.front

      entered : Sought kind n stopped t room' head (suc done) (suc tail)
      entered =
          record {
            reached = enter (known-near kind n G.there) S.sought.reached S.before (omega (arith, G.linked))
                (ap (label room) (sym w) ∙ f)
                (ap (label room') (sym w) ∙ E.new ∙ S.same ∙ ap (λ (y : ℕ). suc (label room y)) S.front)
                (λ j ne. E.old j (λ y. ne (y ∙ w)))
                (E.last ∙ w)
                E.others;
          }

  -- all of them
  pub spread_all : {room : List ℕ} {places head done tail x l : ℕ} → Roomy kind n links places → Spreading kind n links stopped t room head done tail x l → links ≤ done → Sought kind n stopped t room (head + 1) 0 tail
  spread_all {room} {places} {head} {done} {tail} G S d =
      subst (λ (k : ℕ). Sought kind n stopped t room k 0 tail) (omega arith) (record { reached = next (known-near kind n G.there) S.sought.reached S.before (omega (arith, G.linked)) })

-- what following them asks
pub record Spreads (kind n links : ℕ) (stopped : List ℕ) (t : ℕ) (room : List ℕ) (head tail : ℕ) : Type 0 where
  pub ground : Roomy kind n links (length room)
  pub before : head < tail
  pub sought : Sought kind n stopped t room head 0 tail

-- ---- the whole search

-- the relays that run from which the target can be reached are sought; the source runs
pub record Searches (kind n links source : ℕ) (stopped : List ℕ) (t : ℕ) (room : List ℕ) : Type 0 where
  pub ground : Roomy kind n links (length room)
  pub relay : source < (mesh_of kind n).relays
  pub running : has stopped source ≡ false
  pub begun : Sought kind n stopped t room 0 0 1

-- the label of the source is the answer
pub record Searched (kind n source : ℕ) (stopped : List ℕ) (t : ℕ) (room : List ℕ) (r : ℕ) : Type 0 where
  pub is : r ≡ label room source
  pub none : r ≡ 0 → (k : ℕ) → Way (avoiding (mesh_of kind n) stopped) k source t → ⊥
  pub some : (d : ℕ) → r ≡ suc d → Shortest (avoiding (mesh_of kind n) stopped) source t d
  pub state : (head tail : ℕ) × Sought kind n stopped t room head 0 tail

module _ {kind n links source : ℕ} {stopped : List ℕ} {t : ℕ} where
  -- with a label, or with nothing left to follow
  pub searched : {room₀ room : List ℕ} {head tail r : ℕ} → Searches kind n links source stopped t room₀ → Sought kind n stopped t room head 0 tail → r ≡ label room source → (0 < r) ⊎ (tail ≤ head)
      → Searched kind n source stopped t room r
  searched {room₀} {room} {head} {tail} {r} S R e w = record {
    is = e;
    none = λ z k a. none w z k a;
    some = λ d z. found (known-near kind n S.ground.there) R.reached source d S.relay S.running (sym e ∙ z);
    state = (head, tail, R);
  }
    where
      none : (0 < r) ⊎ (tail ≤ head) → r ≡ 0 → (k : ℕ) → Way (avoiding (mesh_of kind n) stopped) k source t → ⊥
      none (inl p) z k a = omega arith
      none (inr p) z k a = lost (known-near kind n S.ground.there) R.reached p source S.relay (sym e ∙ z) k a

-- ---- its start

pub record Starts (relays target places : ℕ) : Type 0 where
  pub relay : target < relays
  pub enough : relays ≤ places
  pub small : relays + 1 < half

-- the target is the first that is reached
abbrev pub Started : (kind n links relays target : ℕ) (stopped : List ℕ) (places : ℕ) (room' : List ℕ) → Type 0
Started kind n links relays target stopped places room' =
    Roomy kind n links places → relays ≡ (mesh_of kind n).relays → has stopped target ≡ false → Sought kind n stopped target room' 0 0 1

-- a room that is cleared, with the target entered
pub begins : {kind n links t places : ℕ} {stopped room room' : List ℕ} → Roomy kind n links places → t < (mesh_of kind n).relays → has stopped t ≡ false
    → Cleared (mesh_of kind n).relays stopped (length stopped) places room → Entered t 1 0 room room' → Sought kind n stopped t room' 0 0 1
begins {kind} {n} {links} {t} {places} {stopped} {room} {room'} G h run C E =
    record {
      reached = begin (known-near kind n G.there) h run E.new E.last
          (λ r a b. E.old r (λ z. true-false b (ap (has stopped) z ∙ run)) ∙ cleared_halt C r a b)
          (λ r a ne b. E.old r ne ∙ cleared_zero C r a b);
    }

pub starts : {kind n links relays target places : ℕ} {stopped room room' : List ℕ} → Starts relays target places → Cleared relays stopped (length stopped) places room → Entered target 1 0 room room'
    → Started kind n links relays target stopped places room'
starts {kind} {n} {links} {relays} {target} {places} {stopped} {room} {room'} S C E G e run =
    begins G (omega (arith, S.relay)) run (subst (λ (k : ℕ). Cleared k stopped (length stopped) places room) e C) E
