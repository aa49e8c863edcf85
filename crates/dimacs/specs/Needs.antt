-- What `exported` finds, test by test, and what a mesh is that nothing stands against: planned, of 2,048 relays at most (`export_fine`), with 11 links at most (`few-links`). Assumes nothing.
use Rattle.std.specs.Prelude.{ℕ, ◌+◌, ◌^◌, ◌≤◌, ◌<◌, ◌≡◌, refl, Bool, true, List, ltb, length}
use Rattle.std.proofs.Common.{sym, ap, ◌∙◌, arith, length-append, pow_mono, lt-ltb, le-ltb, ltb-false}
use Rattle.std.proofs.Math.Option.{none, some}
use Rattle.std.proofs.Math.Decide.{dec_lt}
use Rattle.answers.specs.Order.{first, export_faults, refuse-none}
use Rattle.answers.specs.declared.Refusal.{Refusal}
use Rattle.answers.specs.declared.Refusal.TheVariants.{TooLarge}
use Rattle.mesh.specs.Kinds.{Kind, kind_of, mesh_of, known, planned}
use Rattle.mesh.specs.Laws.{planned_case, known-planned, served-fine, unserved_refused}
use Rattle.mesh.specs.Requests.{served_sound}
use Rattle.mesh.specs.Says.{served_faults_in}
use Rattle.two_parts.specs.Parts.{known_bounds}
use Rattle.decimal.specs.Digits.{digits}
use Rattle.paths.specs.Mesh.{Mesh}
use Rattle.dimacs.specs.Text.{Edge, counts_word, pair_text, edges_text, each, row, edges, link_count, graph_text}
use Rattle.dimacs.specs.Says.{export_faults_in, most_relays}
use Rattle.dimacs.specs.Rows.{Rising, onward, by_links, planned_rising}
use Rattle.dimacs.specs.Pieces.{pair_long, onward-short, each-short}

-- ---- as code goes through them

module _ (k n : ℕ) where
  abbrev large : Bool
  large = ltb most_relays (mesh_of k n).relays

  pub export_unserved : {why : Refusal} → some why ≡ first (served_faults_in (kind_of k) n) → some why ≡ first (export_faults_in (kind_of k) n)
  export_unserved e = unserved_refused (kind_of k) n (export_faults large) e

  module _ {r : Bool} (e : r ≡ planned k n) (t : r ≡ true) {relays : ℕ} (is : relays ≡ (mesh_of k n).relays) where
    pub export_large : most_relays < relays → some TooLarge ≡ first (export_faults_in (kind_of k) n)
    export_large h = ap (λ (b : Bool). first (export_faults b)) (sym (lt-ltb most_relays (mesh_of k n).relays (omega (arith, is)))) ∙ served-fine k n (export_faults large) e t

    pub export_small : relays ≤ most_relays → none ≡ first (export_faults_in (kind_of k) n)
    export_small h = ap (λ (b : Bool). first (export_faults b)) (sym (le-ltb most_relays (mesh_of k n).relays (omega (arith, is)))) ∙ served-fine k n (export_faults large) e t

-- ---- a mesh that is exported

pub record Exported (k n : ℕ) : Type 0 where
  pub planned : planned k n ≡ true
  pub known : known k n ≡ true
  pub small : (mesh_of k n).relays ≤ most_relays
  pub few : (mesh_of k n).links ≤ 11

few-links : (k n : ℕ) → planned k n ≡ true → (mesh_of k n).relays ≤ most_relays → (mesh_of k n).links ≤ 11
few-links k n p h = planned_case k n p (λ j (K : Kind). (K.mesh n).relays ≤ most_relays → (K.mesh n).links ≤ 11) (λ z g. cube n g (dec_lt 11 n)) (λ z g. omega (arith, known_bounds n z)) h
  where
    cube : (n : ℕ) → 2 ^ n ≤ 2048 → Dec (11 < n) → n ≤ 11
    cube n g (yes l) = absurd (omega (arith, pow_mono {j = n} l))
    cube n g (no ne) = omega arith

pub export_fine : (k n : ℕ) → first (export_faults_in (kind_of k) n) ≡ none → Exported k n
export_fine k n e =
    let (a, b, c) = served_sound (kind_of k) n (export_faults (ltb most_relays (mesh_of k n).relays)) e in
    let p = known-planned k n a b in
    let s = ltb-false most_relays (mesh_of k n).relays (refuse-none (ltb most_relays (mesh_of k n).relays) TooLarge none c).0 in
    record { planned = p; known = a; small = s; few = few-links k n p s }

-- ---- what the writer's functions ask

-- a relay of a mesh that is exported, with its links counted
pub record Rowed (k n links u : ℕ) : Type 0 where
  pub exported : Exported k n
  pub count : links ≡ (mesh_of k n).links
  pub relay : u < (mesh_of k n).relays

-- a link of a relay
pub record Linking (k n u i : ℕ) : Type 0 where
  pub exported : Exported k n
  pub relay : u < (mesh_of k n).relays
  pub link : i < (mesh_of k n).links

pub linking : {k n links u i : ℕ} → Rowed k n links u → i < links → Linking k n u i
linking r h = record { exported = r.exported; relay = r.relay; link = omega (arith, r.count) }

-- the line of link i of u, where it leads higher
abbrev pub link_of : (k n u i : ℕ) → List Edge
link_of k n u i = onward u ((kind_of k).near n u i)

module _ {k n : ℕ} (x : Exported k n) where
  pub export_rising : Rising (mesh_of k n) ((kind_of k).near n)
  export_rising = planned_rising k n x.planned

  pub row-links : {u : ℕ} → u < (mesh_of k n).relays → each (link_of k n u) (mesh_of k n).links ≡ row (mesh_of k n) u
  row-links {u} h = by_links (mesh_of k n) ((kind_of k).near n) export_rising u h

  pub near_small : {u i : ℕ} → u < (mesh_of k n).relays → i < (mesh_of k n).links → (kind_of k).near n u i < most_relays
  near_small {u} {i} h l = omega (arith, export_rising.links.below u i h l, x.small)

  -- a line takes 44 bytes at most, a row 484
  pub link-short : {u i : ℕ} → u < (mesh_of k n).relays → i < (mesh_of k n).links → length (edges_text (link_of k n u i)) ≤ 44
  link-short {u} {i} h l = onward-short u ((kind_of k).near n u i) (omega (arith, x.small)) (omega (arith, near_small h l))

  pub links-short : {u i : ℕ} → u < (mesh_of k n).relays → i ≤ (mesh_of k n).links → length (edges_text (each (link_of k n u) i)) ≤ 484
  links-short {u} {i} h l = omega (arith, each-short (link_of k n u) 44 i (λ j g. link-short h (omega arith)), x.few)

  pub row-short : {u : ℕ} → u < (mesh_of k n).relays → length (edges_text (row (mesh_of k n) u)) ≤ 484
  row-short {u} h = omega (arith, ap (λ (l : List Edge). length (edges_text l)) (row-links h), links-short {i = (mesh_of k n).links} h (omega arith))

  pub rows_short : {i : ℕ} → i ≤ (mesh_of k n).relays → length (edges_text (each (row (mesh_of k n)) i)) ≤ 991232
  rows_short {i} l = omega (arith, each-short (row (mesh_of k n)) 484 i (λ j g. row-short (omega arith)), x.small)

pub graph_long : (m : Mesh) → length (graph_text m) ≡ 9 + length (digits m.relays) + length (digits (link_count m)) + length (edges_text (edges m))
unfolding graph_text
graph_long m = omega (arith, length-append (pair_text counts_word m.relays (link_count m)) (edges_text (edges m)), pair_long counts_word m.relays (link_count m))

pub all-rows : (m : Mesh) → each (row m) m.relays ≡ edges m
unfolding edges
all-rows m = refl
