-- What the writer owes at each of its ends. Assumes nothing.
use Rattle.std.specs.Prelude.{ℕ, ◌+◌, ◌*◌, ◌/◌, ◌≤◌, ◌<◌, ◌≡◌, Bool, ltb, length, drop, set, Result, Ok, Err, ⊤}
use Rattle.std.proofs.Common.{sym, ap₂, ◌∙◌, arith, lt-ltb, le-ltb}
use Rattle.std.proofs.Math.Path.{ap, refl}
use mathlib.Core.List.{List, [], ◌∷◌, ◌++◌}
use Rattle.std.proofs.Math.Option.{none, some}
use Rattle.answers.specs.Order.{first}
use Rattle.answers.specs.Pairs.{lent_refused, lent-short, lent-fine}
use Rattle.answers.specs.Told.{tell, against}
use Rattle.answers.specs.declared.Refusal.{Refusal}
use Rattle.answers.specs.declared.Refusal.TheVariants.{NoRoom}
use Rattle.decimal.specs.Write.{Put, put_long, put_then, put_byte, put_as}
use Rattle.line.specs.Text.{spaced, line_end}
use Rattle.line_put.specs.Writes.{put_front, first-room, then_room}
use Rattle.mesh.specs.Kinds.{kind_of, mesh_of}
use Rattle.dimacs.specs.Text.{edge, counts_word, pair_text, edge_text, edges_text, each, row, edges, link_count, graph_text}
use Rattle.dimacs.specs.Rows.{onward}
use Rattle.dimacs.specs.Pieces.{Eaching, each-room, each_all, onward-text, onward_blank}
use Rattle.dimacs.specs.Needs.{Exported, Rowed, Linking, link_of, row-links, near_small, all-rows, export_fine}
use Rattle.dimacs.specs.Says.{export_faults_in, write_told, write_leaves}
use Rattle.dimacs_size.specs.Sizes.{Rows}

-- ---- a line

module _ (was : List ℕ) (at a b : ℕ) where
  pub edge_room : at + length (edge_text (edge a b)) ≤ length was → (at < length was) × (at + 1 + length (spaced (a ∷ b ∷ []) ++ line_end) ≤ length (set was at 101))
  edge_room h = (omega arith, omega (arith, put_long (put_byte was at 101)))

  pub edge_put : {p : ℕ} {now : List ℕ} → Put (set was at 101) (at + 1) (spaced (a ∷ b ∷ []) ++ line_end) p now → Put was at (edge_text (edge a b)) p now
  edge_put w = put_then (put_byte was at 101) w

-- ---- a link

module _ {k n u i : ℕ} (l : Linking k n u i) {v : ℕ} (is : v ≡ (kind_of k).near n u i) where
  pub link-text : u < v → edges_text (link_of k n u i) ≡ edge_text (edge (u + 1) (v + 1))
  link-text h = ap (λ (x : ℕ). edges_text (onward u x)) (sym is) ∙ onward-text u v h

  pub link_blank : v ≤ u → edges_text (link_of k n u i) ≡ []
  link_blank h = ap (λ (x : ℕ). edges_text (onward u x)) (sym is) ∙ onward_blank u v h

  pub link-end : v < 2048
  link-end = omega (arith, near_small l.exported l.relay l.link)

  pub link-room : (at room : ℕ) → u < v → at + length (edges_text (link_of k n u i)) ≤ room → at + length (edge_text (edge (u + 1) (v + 1))) ≤ room
  link-room at room h g = omega (arith, ap length (link-text h))

-- ---- a row

module _ {k n links u : ℕ} (r : Rowed k n links u) where
  as_row : edges_text (each (link_of k n u) links) ≡ edges_text (row (mesh_of k n) u)
  as_row = ap (λ (x : ℕ). edges_text (each (link_of k n u) x)) r.count ∙ ap edges_text (row-links r.exported r.relay)

  module _ {was : List ℕ} {at i p : ℕ} {now : List ℕ} (l : Eaching (link_of k n u) was at links i p now) where
    pub row_room : i < links → at + length (edges_text (row (mesh_of k n) u)) ≤ length was → p + length (edges_text (link_of k n u i)) ≤ length now
    row_room h g = each-room (link_of k n u) was at links l h (omega (arith, ap length as_row))

    pub row_done : links ≤ i → Put was at (edges_text (row (mesh_of k n) u)) p now
    row_done h = put_as as_row (each_all (link_of k n u) was at links l h)

-- ---- all rows

module _ {k n relays links : ℕ} (r : Rows k n relays links) where
  as_edges : edges_text (each (row (mesh_of k n)) relays) ≡ edges_text (edges (mesh_of k n))
  as_edges = ap (λ (x : ℕ). edges_text (each (row (mesh_of k n)) x)) r.relays_are ∙ ap edges_text (all-rows (mesh_of k n))

  module _ {was : List ℕ} {at i p : ℕ} {now : List ℕ} (l : Eaching (row (mesh_of k n)) was at relays i p now) where
    pub rows-room : i < relays → at + length (edges_text (edges (mesh_of k n))) ≤ length was → p + length (edges_text (row (mesh_of k n) i)) ≤ length now
    rows-room h g = each-room (row (mesh_of k n)) was at relays l h (omega (arith, ap length as_edges))

    pub rows_done : relays ≤ i → Put was at (edges_text (edges (mesh_of k n))) p now
    rows_done h = put_as as_edges (each_all (row (mesh_of k n)) was at relays l h)

  -- ---- the whole

  as_head : pair_text counts_word relays (relays * links / 2) ≡ pair_text counts_word (mesh_of k n).relays (link_count (mesh_of k n))
  as_head = ap₂ (λ (x y : ℕ). pair_text counts_word x (x * y / 2)) r.relays_are r.links_are

  as_graph : pair_text counts_word relays (relays * links / 2) ++ edges_text (edges (mesh_of k n)) ≡ graph_text (mesh_of k n)
  unfolding graph_text
  as_graph = ap (λ (l : List ℕ). l ++ edges_text (edges (mesh_of k n))) as_head

  module _ (was : List ℕ) (room : length (graph_text (mesh_of k n)) ≤ length was) where
    whole_room : 0 + length (pair_text counts_word relays (relays * links / 2) ++ edges_text (edges (mesh_of k n))) ≤ length was
    whole_room = omega (arith, ap length as_graph)

    pub head-room : 0 + length (pair_text counts_word relays (relays * links / 2)) ≤ length was
    head-room = first-room was 0 (pair_text counts_word relays (relays * links / 2)) (edges_text (edges (mesh_of k n))) whole_room

    module _ {p : ℕ} {mid : List ℕ} (w : Put was 0 (pair_text counts_word relays (relays * links / 2)) p mid) where
      pub body-room : p + length (edges_text (edges (mesh_of k n))) ≤ length mid
      body-room = then_room (pair_text counts_word relays (relays * links / 2)) (edges_text (edges (mesh_of k n))) w whole_room

      pub graph_put : {q : ℕ} {now : List ℕ} → Put mid p (edges_text (edges (mesh_of k n))) q now → Put was 0 (graph_text (mesh_of k n)) q now
      graph_put v = put_as as_graph (put_then w v)

-- ---- what is told and left

module _ (k n : ℕ) (out : List ℕ) where
  abbrev text : List ℕ
  text = graph_text (mesh_of k n)

  abbrev short : Bool
  short = ltb (length out) (length text)

  module _ {r : Result ⊤ Refusal} (e : against r ≡ first (export_faults_in (kind_of k) n)) where
    pub write_exported : r ≡ Ok tt → Exported k n
    write_exported f = export_fine k n (sym e ∙ ap against f)

    pub write_refused : {why : Refusal} → r ≡ Err why → (tell (some why) 0 0 ≡ write_told k n out) × (out ≡ write_leaves k n out)
    write_refused f = lent_refused (export_faults_in (kind_of k) n) short (length text) out (text ++ drop (length text) out) e f

    pub write_short : {bytes : ℕ} → r ≡ Ok tt → bytes ≡ length text → length out < bytes → (tell (some NoRoom) 0 0 ≡ write_told k n out) × (out ≡ write_leaves k n out)
    write_short f b h = lent-short (export_faults_in (kind_of k) n) short (length text) out (text ++ drop (length text) out) e f (lt-ltb (length out) (length text) (omega arith))

    pub write_fine : {bytes p : ℕ} {now : List ℕ} → r ≡ Ok tt → bytes ≡ length text → bytes ≤ length out → Put out 0 text p now → (tell none 0 p ≡ write_told k n out) × (now ≡ write_leaves k n out)
    write_fine f b h w =
        let (told_long, left) = put_front (omega arith) w in
        let (t, l) = lent-fine (export_faults_in (kind_of k) n) short (length text) out (text ++ drop (length text) out) e f (le-ltb (length out) (length text) (omega arith)) in
        (ap (λ (x : ℕ). tell none 0 x) told_long ∙ t, left ∙ l)

-- of a mesh that nothing stands against
pub write_left : (k n : ℕ) (out : List ℕ) {bytes p : ℕ} {now : List ℕ} → none ≡ first (export_faults_in (kind_of k) n) → bytes ≡ length (graph_text (mesh_of k n)) → bytes ≤ length out
    → Put out 0 (graph_text (mesh_of k n)) p now → now ≡ write_leaves k n out
write_left k n out e b h w = (write_fine k n out {r = Ok tt} e refl b h w).1
