-- What the functions that count bytes ask, and what their loops owe. Assumes nothing.
use Rattle.std.specs.Prelude.{ℕ, ◌+◌, ◌*◌, ◌/◌, ◌%◌, ◌^◌, ◌≤◌, ◌<◌, List, [], ◌∷◌, ◌≡◌, length}
use Rattle.std.proofs.Common.{ap, ap₂, ◌∙◌, arith, mul-le-mul, length-append}
use Rattle.decimal.specs.Digits.{glyph, digits, digits-one, digits_more, digits-some, digits-short}
use Rattle.mesh.specs.Kinds.{kind_of, mesh_of}
use Rattle.dimacs.specs.Text.{Edge, edges_text, each, row, edges, graph_text}
use Rattle.dimacs.specs.Rows.{onward}
use Rattle.dimacs.specs.Pieces.{Summing, sum-all, onward_blank, onward_long}
use Rattle.dimacs.specs.Needs.{Exported, Rowed, Linking, linking, link_of, near_small, row-links, link-short, links-short, row-short, rows_short, graph_long, all-rows}

pub record Rows (k n relays links : ℕ) : Type 0 where
  pub exported : Exported k n
  pub relays_are : relays ≡ (mesh_of k n).relays
  pub links_are : links ≡ (mesh_of k n).links

pub rowed : {k n relays links u : ℕ} → Rows k n relays links → u < relays → Rowed k n links u
rowed r h = record { exported = r.exported; count = r.links_are; relay = omega (arith, r.relays_are) }

-- the digits of what is left, and those that are counted
pub record Widening (n rest k : ℕ) : Type 0 where
  pub fits : n < 2 ^ 64
  pub same : length (digits n) + 1 ≡ k + length (digits rest)

pub wide_start : (n : ℕ) → n < 2 ^ 64 → Widening n n 1
wide_start n h = record { fits = h; same = omega arith }

module _ {n rest k : ℕ} (w : Widening n rest k) where
  pub wide_few : k ≤ 20
  wide_few = omega (arith, w.same, digits-short n w.fits, digits-some rest)

  pub wide_more : 10 ≤ rest → Widening n (rest / 10) (k + 1)
  wide_more h = record {
    fits = w.fits;
    same = omega (arith, w.same, ap length (digits_more rest h), length-append (digits (rest / 10)) (glyph (rest % 10) ∷ []));
  }

  pub wide_all : rest < 10 → k ≡ length (digits n)
  wide_all h = omega (arith, w.same, ap length (digits-one rest h))

-- the whole
module _ {k n relays links : ℕ} (r : Rows k n relays links) where
  pub product_small : relays * links ≤ 22528
  product_small = omega (arith, mul-le-mul r.exported.small r.exported.few, ap₂ (λ (x y : ℕ). x * y) r.relays_are r.links_are)

  pub whole : {a b c : ℕ} → a ≡ length (digits relays) → b ≡ length (digits (relays * links / 2)) → c ≡ length (edges_text (edges (mesh_of k n))) → 9 + a + b + c ≡ length (graph_text (mesh_of k n))
  whole p q s =
      let e = ap (λ (x : ℕ). length (digits x)) r.relays_are in
      let f = ap₂ (λ (x y : ℕ). length (digits (x * y / 2))) r.relays_are r.links_are in
      omega (arith, graph_long (mesh_of k n))

-- the line of a link
module _ {k n u i : ℕ} (l : Linking k n u i) {v : ℕ} (is : v ≡ (kind_of k).near n u i) where
  pub end_small : v < 2048
  end_small = omega (arith, near_small l.exported l.relay l.link)

  pub line_long : {a b : ℕ} → u < v → a ≡ length (digits (u + 1)) → b ≡ length (digits (v + 1)) → 4 + a + b ≡ length (edges_text (link_of k n u i))
  line_long h p q = omega (arith, ap (λ (x : ℕ). length (edges_text (onward u x))) is, onward_long u v h)

  pub line-none : v ≤ u → 0 ≡ length (edges_text (link_of k n u i))
  line-none h = omega (arith, ap (λ (x : ℕ). length (edges_text (onward u x))) is, ap length (onward_blank u v h))

pub width-short : {a n : ℕ} → a ≡ length (digits n) → n < 2 ^ 64 → a ≤ 20
width-short {a} {n} e h = omega (arith, digits-short n h)

-- the lines of a relay
module _ {k n links u : ℕ} (r : Rowed k n links u) {i p : ℕ} (s : Summing (link_of k n u) links i p) where
  pub row_small : p ≤ 484
  row_small = omega (arith, s.sum, links-short r.exported {i = i} r.relay (omega (arith, s.within, r.count)))

  pub row-all : links ≤ i → p ≡ length (edges_text (row (mesh_of k n) u))
  row-all h =
      sum-all (link_of k n u) s h ∙ ap (λ (x : ℕ). length (edges_text (each (link_of k n u) x))) r.count
      ∙ ap (λ (l : List Edge). length (edges_text l)) (row-links r.exported r.relay)

pub link-few : {k n links u i q : ℕ} → Rowed k n links u → i < links → q ≡ length (edges_text (link_of k n u i)) → q ≤ 44
link-few r h e = omega (arith, link-short r.exported r.relay (linking r h).link)

-- the lines of all
module _ {k n relays links : ℕ} (r : Rows k n relays links) {i p : ℕ} (s : Summing (row (mesh_of k n)) relays i p) where
  pub rows_small : p ≤ 991232
  rows_small = omega (arith, s.sum, rows_short r.exported {i = i} (omega (arith, s.within, r.relays_are)))

  pub rows_all : relays ≤ i → p ≡ length (edges_text (edges (mesh_of k n)))
  rows_all h =
      sum-all (row (mesh_of k n)) s h ∙ ap (λ (x : ℕ). length (edges_text (each (row (mesh_of k n)) x))) r.relays_are
      ∙ ap (λ (l : List Edge). length (edges_text l)) (all-rows (mesh_of k n))

pub row-few : {k n relays links u q : ℕ} → Rows k n relays links → u < relays → q ≡ length (edges_text (row (mesh_of k n) u)) → q ≤ 484
row-few r h e = omega (arith, row-short r.exported (rowed r h).relay)

pub edges_few : {k n relays links q : ℕ} → Rows k n relays links → q ≡ length (edges_text (edges (mesh_of k n))) → q ≤ 991232
edges_few {k} {n} r e = omega (arith, ap (λ (l : List Edge). length (edges_text l)) (all-rows (mesh_of k n)), rows_short r.exported {i = (mesh_of k n).relays} (omega arith))

pub rows_of : {k n relays links : ℕ} → Exported k n → relays ≡ (mesh_of k n).relays → links ≡ (mesh_of k n).links → Rows k n relays links
rows_of x p q = record { exported = x; relays_are = p; links_are = q }

pub relays_small : {k n relays links : ℕ} → Rows k n relays links → relays ≤ 2048
relays_small r = omega (arith, r.relays_are, r.exported.small)
