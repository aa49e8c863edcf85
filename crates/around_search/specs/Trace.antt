-- The way written, from the source down the labels: what each function asks and gives. Assumes nothing.
use Rattle.std.specs.Prelude.{ℕ, zero, suc, ◌+◌, ◌<◌, ◌≡◌, refl, true, false, ◌⊎◌, ◌≢◌, List, [], ◌∷◌, ◌++◌, length, set, drop}
use Rattle.std.proofs.Common.{ap, ap₂, ◌∙◌, subst, inl, inr, append_assoc, add-one, arith, length-append, drop-cons, drop-set-lt}
use Rattle.std.proofs.lemmas.List.{set_at}
use Rattle.scan.specs.Scan.{has}
use Rattle.scan.specs.Laws.{true-or}
use Rattle.paths.specs.Mesh.{Mesh}
use Rattle.paths.specs.Lists.{Chain}
use Rattle.paths.specs.Bundle.{chain_append}
use Rattle.mesh.specs.Kinds.{kind_of, mesh_of}
use Rattle.mesh.specs.Laws.{known-near}
use Rattle.around_search.specs.Avoid.{avoiding, runs-link}
use Rattle.around_search.specs.Labels.{found, down}
use Rattle.around_search.specs.Room.{label}
use Rattle.around_search.specs.Search.{Sought, Roomy}

-- ---- one relay down

-- relay u has a link to one with this label
pub record Downs (kind n links u want : ℕ) (room : List ℕ) : Type 0 where
  pub ground : Roomy kind n links (length room)
  pub relay : u < (mesh_of kind n).relays
  pub some : (k : ℕ) × (k < links) × (label room ((kind_of kind).near n u k) ≡ want)

-- which is v
pub record Down (kind n links u want : ℕ) (room : List ℕ) (v : ℕ) : Type 0 where
  pub link : (k : ℕ) × (k < links) × (v ≡ (kind_of kind).near n u k)
  pub labelled : label room v ≡ want

-- none of the first i links leads to one
abbrev pub Missed : (kind n u want : ℕ) (room : List ℕ) (i : ℕ) → Type 0
Missed kind n u want room i = (k : ℕ) → k < i → label room ((kind_of kind).near n u k) ≢ want

-- ---- all of them

-- the source has the label d + 1, and there is room for d hops
pub record Traces (kind n links s d : ℕ) (stopped : List ℕ) (t : ℕ) (room : List ℕ) (places : ℕ) : Type 0 where
  pub ground : Roomy kind n links (length room)
  pub relay : s < (mesh_of kind n).relays
  pub running : has stopped s ≡ false
  pub labelled : label room s ≡ suc d
  pub fits : d < places
  pub state : (head tail : ℕ) × Sought kind n stopped t room head 0 tail

-- the first i hops of a way stand in the places, to a relay whose label is as much lower
pub record Tracing (kind n s d : ℕ) (stopped : List ℕ) (room out₀ out : List ℕ) (i u : ℕ) : Type 0 where
  pub path : List ℕ
  pub chain : Chain (avoiding (mesh_of kind n) stopped) s u path
  pub count : length path ≡ i
  pub is : out ≡ (s ∷ path) ++ drop (i + 1) out₀
  pub relay : u < (mesh_of kind n).relays
  pub running : has stopped u ≡ false
  pub labelled : label room u + i ≡ suc d

-- a way of d links, and what was there behind it
pub record Traced (m : Mesh) (s t d : ℕ) (out out' : List ℕ) : Type 0 where
  pub path : List ℕ
  pub chain : Chain m s t path
  pub count : length path ≡ d
  pub is : out' ≡ (s ∷ path) ++ drop (d + 1) out

pub as_long : {kind n links s d : ℕ} {stopped : List ℕ} {t : ℕ} {room : List ℕ} {a b : ℕ} → Traces kind n links s d stopped t room a → b ≡ a → Traces kind n links s d stopped t room b
as_long T e = record { ground = T.ground; relay = T.relay; running = T.running; labelled = T.labelled; fits = omega (arith, T.fits); state = T.state }

module _ {kind n links s d : ℕ} {stopped : List ℕ} {t : ℕ} {room : List ℕ} {places : ℕ} where
  pub trace_starts : (out : List ℕ) → Traces kind n links s d stopped t room places → 0 < length out → Tracing kind n s d stopped room (set out 0 s) (set out 0 s) 0 s
  trace_starts out T h = record {
    path = [];
    chain = refl;
    count = refl;
    is = first out h;
    relay = T.relay;
    running = T.running;
    labelled = omega (arith, T.labelled);
  }
    where
      first : (out : List ℕ) → 0 < length out → set out 0 s ≡ (s ∷ []) ++ drop (0 + 1) (set out 0 s)
      first [] h = absurd (omega arith)
      first (x ∷ out) h = refl

  -- the relay that is reached has a link to one of the label below
  pub goes_down : {out₀ out : List ℕ} {i u w : ℕ} → Traces kind n links s d stopped t room places → Tracing kind n s d stopped room out₀ out i u → i < d → w + i ≡ d → Downs kind n links u w room
  goes_down {out₀} {out} {i} {u} {w} T W h e = go w refl
    where
      go : (k : ℕ) → k ≡ w → Downs kind n links u w room
      go zero z = absurd (omega arith)
      go (suc k) z =
          let (head, tail, R) = T.state in
          let (j, a, b) = down (known-near kind n T.ground.there) R.reached u k W.relay W.running (omega (arith, W.labelled)) in
          record { ground = T.ground; relay = W.relay; some = (j, omega (arith, T.ground.linked), b ∙ z) }

  -- a hop more
  pub trace_more : {out₀ out : List ℕ} {i u v w : ℕ} → Traces kind n links s d stopped t room places → Tracing kind n s d stopped room out₀ out i u → i < d → w + i ≡ d → i + 1 < length out₀ → Down kind n links u w room v
      → Tracing kind n s d stopped room out₀ (set out (i + 1) v) (i + 1) v
  trace_more {out₀} {out} {i} {u} {v} {w} T W h e r D = record {
    path = W.path ++ (v ∷ []);
    chain = chain_append (avoiding (mesh_of kind n) stopped) s u v W.path W.chain below (runs-link (mesh_of kind n) stopped u v linked W.running runs);
    count = length-append W.path (v ∷ []) ∙ omega (arith, W.count);
    is = ap (λ (l : List ℕ). set l (i + 1) v) W.is ∙ put W.path W.count;
    relay = below;
    running = runs;
    labelled = omega (arith, D.labelled);
  }
    where
      below : v < (mesh_of kind n).relays
      below = omega (arith, D.link.2, (known-near kind n T.ground.there).below u D.link.0 W.relay (omega (arith, D.link.1, T.ground.linked)))

      linked : (mesh_of kind n).linked u v ≡ true
      linked = ap ((mesh_of kind n).linked u) D.link.2 ∙ (known-near kind n T.ground.there).linked u D.link.0 W.relay (omega (arith, D.link.1, T.ground.linked))

      runs : has stopped v ≡ false
      runs = go (true-or (has stopped v))
        where
          go : (has stopped v ≡ true) ⊎ (has stopped v ≡ false) → has stopped v ≡ false
          go (inr f) = f
          go (inl y) =
              let (head, tail, R) = T.state in
              let (a, b, c) = R.reached.held s T.relay T.running (omega (arith, T.labelled)) in
              absurd (omega (arith, R.reached.halts v below y, D.labelled, R.reached.small a b, ap (label room) c, T.labelled, R.reached.room, T.ground.small))

      put : (l : List ℕ) → length l ≡ i → set ((s ∷ l) ++ drop (i + 1) out₀) (i + 1) v ≡ (s ∷ (l ++ (v ∷ []))) ++ drop (i + 1 + 1) out₀
      put l c =
          rw (drop-cons out₀ (i + 1) 0) (rw (set_at (s ∷ l) _ _ _ (i + 1) (omega (arith, c))) (simp (add-one, append_assoc)))

  -- all hops
  pub trace_all : {o out₀ out : List ℕ} {i u : ℕ} → Traces kind n links s d stopped t room places → out₀ ≡ set o 0 s → Tracing kind n s d stopped room out₀ out i u → i ≡ d → Traced (avoiding (mesh_of kind n) stopped) s t d o out
  trace_all {o} {out₀} {out} {i} {u} T z₀ W e =
      let (head, tail, R) = T.state in
      let z = (found (known-near kind n T.ground.there) R.reached u 0 W.relay W.running (omega (arith, W.labelled))).way in
      record {
        path = W.path;
        chain = subst (λ (x : ℕ). Chain (avoiding (mesh_of kind n) stopped) s x W.path) z W.chain;
        count = W.count ∙ e;
        is = W.is ∙ ap (λ (l : List ℕ). (s ∷ W.path) ++ l) (ap₂ (λ (x : ℕ) (l : List ℕ). drop (x + 1) l) e z₀ ∙ drop-set-lt (d + 1) o 0 s (omega arith));
      }
