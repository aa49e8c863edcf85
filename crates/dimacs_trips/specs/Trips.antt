-- Which files are read as a mesh. A file is read as yes exactly where every line of it is one, its counts are the mesh's, and its `e` lines are the mesh, each link once (`yes_means`, `means_yes`). What is written is
-- read as yes (`written_reads`); so is the same file with its `e` lines in any other order and some of them turned (`shuffled_reads`), and any file of well-formed lines, comments among them, with the `e` lines of one
-- that is, shuffled and turned (`order_free`). Assumes nothing.
use Rattle.std.specs.Prelude.{ℕ, ◌*◌, ◌<◌, ◌≡◌, refl, Bool, true, false, List, [], ◌∷◌, ◌++◌, Err}
use Rattle.std.proofs.Common.{sym, ap, ◌∙◌, subst, ⊎_elim, arith, mul-le-mul, div-le_self}
use Rattle.std.proofs.Math.Option.{Option, none, some}
use Rattle.std.proofs.lemmas.Bool.{eqb-false}
use Rattle.scan.specs.Scan.{Spot, nowhere, at, pick}
use Rattle.scan.specs.Laws.{true-or}
use Rattle.answers.specs.Order.{first}
use Rattle.answers.specs.Told.{number}
use Rattle.answers.specs.Laws.{number-some}
use Rattle.answers.specs.declared.Refusal.{Refusal}
use Rattle.paths.specs.Links.{Links}
use Rattle.mesh.specs.Kinds.{kind_of, mesh_of}
use Rattle.decimal.specs.Number.{limit}
use Rattle.dimacs.specs.Text.{Edge, edge, counts_word, pair_text, edges_text, edges, link_count, graph_text}
use Rattle.dimacs.specs.Parse.{Line, counts, lines_of}
use Rattle.dimacs.specs.Says.{export_faults_in, malformed_at, counted, same, times, wrong_at, edges_of, missing, or_malformed, or_wrong, or_refused, read_of, number_of, yes}
use Rattle.dimacs.specs.Edges.{same_straight, times-on, times_off, link_sound}
use Rattle.dimacs.specs.Needs.{export_fine, export_rising}
use Rattle.dimacs.specs.declared.Fault.TheVariants.{WrongCounts, Missing}
use Rattle.dimacs_trips.specs.Once.{IsMesh, Shuffled, keep, reads_mesh, mesh_reads, same-mesh, shuffled-mesh}
use Rattle.dimacs_trips.specs.Once as once
use Rattle.dimacs_trips.specs.Edges.{edges-mesh}
use Rattle.dimacs_trips.specs.Texts.{linked, Small, file-lines, file_formed, file-counted, file-edges}

-- a file is the mesh of a kind and size: there is such a mesh and it is exported, every line is one, the counts are right, and each link stands once
pub record Tells (k n : ℕ) (text : List ℕ) : Type 0 where
  pub export : first (export_faults_in (kind_of k) n) ≡ none
  pub formed : malformed_at false 0 (lines_of text) ≡ nowhere
  pub counts : counted (mesh_of k n).relays (link_count (mesh_of k n)) (lines_of text) ≡ true
  pub mesh : IsMesh (mesh_of k n) (edges_of (lines_of text))

-- ---- yes exactly then

split : (o : Option Refusal) (s : Spot) (c : Bool) (w : Spot) (b : Bool) → or_refused o (or_malformed s (pick c (or_wrong w (pick b (Err Missing) yes)) (Err WrongCounts))) ≡ yes
    → (o ≡ none) × (s ≡ nowhere) × (c ≡ true) × (w ≡ nowhere) × (b ≡ false)
split (some why) s c w b e = absurd (eqb-false (number why) 0 (number-some why) (ap number_of e))
split none (at p) c w b e = let z : ◌≡◌ {A = ℕ} 47 0 = ap number_of e in absurd (omega arith)
split none nowhere false w b e = let z : ◌≡◌ {A = ℕ} 48 0 = ap number_of e in absurd (omega arith)
split none nowhere true (at p) b e = let z : ◌≡◌ {A = ℕ} 49 0 = ap number_of e in absurd (omega arith)
split none nowhere true nowhere true e = let z : ◌≡◌ {A = ℕ} 50 0 = ap number_of e in absurd (omega arith)
split none nowhere true nowhere false e = (refl, refl, refl, refl, refl)

join : (o : Option Refusal) (s : Spot) (c : Bool) (w : Spot) (b : Bool) → o ≡ none → s ≡ nowhere → c ≡ true → w ≡ nowhere → b ≡ false
    → or_refused o (or_malformed s (pick c (or_wrong w (pick b (Err Missing) yes)) (Err WrongCounts))) ≡ yes
join o s c w b p q r t u =
    ap (λ (x : Option Refusal). or_refused x (or_malformed s (pick c (or_wrong w (pick b (Err Missing) yes)) (Err WrongCounts)))) p
    ∙ ap (λ (x : Spot). or_malformed x (pick c (or_wrong w (pick b (Err Missing) yes)) (Err WrongCounts))) q
    ∙ ap (λ (x : Bool). pick x (or_wrong w (pick b (Err Missing) yes)) (Err WrongCounts)) r
    ∙ ap (λ (x : Spot). or_wrong x (pick b (Err Missing) yes)) t
    ∙ ap (λ (x : Bool). pick x (Err Missing) yes) u

links-of : (k n : ℕ) → first (export_faults_in (kind_of k) n) ≡ none → Links (mesh_of k n) ((kind_of k).near n)
links-of k n x = (export_rising (export_fine k n x)).links

module _ (k n : ℕ) (text : List ℕ) where
  pub yes_means : read_of k n text ≡ yes → Tells k n text
  yes_means e =
      let (x, f, c, w, b) = split (first (export_faults_in (kind_of k) n)) (malformed_at false 0 (lines_of text)) (counted (mesh_of k n).relays (link_count (mesh_of k n)) (lines_of text))
      (wrong_at (mesh_of k n) [] 0 (lines_of text)) (missing (mesh_of k n) (edges_of (lines_of text))) e in
      record { export = x; formed = f; counts = c; mesh = reads_mesh (mesh_of k n) ((kind_of k).near n) (links-of k n x) (lines_of text) w b }

  pub means_yes : Tells k n text → read_of k n text ≡ yes
  means_yes t =
      let (w, b) = mesh_reads (mesh_of k n) ((kind_of k).near n) (links-of k n t.export) (lines_of text) t.mesh in
      join (first (export_faults_in (kind_of k) n)) (malformed_at false 0 (lines_of text)) (counted (mesh_of k n).relays (link_count (mesh_of k n)) (lines_of text))
      (wrong_at (mesh_of k n) [] 0 (lines_of text)) (missing (mesh_of k n) (edges_of (lines_of text))) t.export t.formed t.counts w b

-- ---- the order and the direction of `e` lines do not matter

pub order_free : (k n : ℕ) (text other : List ℕ) → read_of k n text ≡ yes → malformed_at false 0 (lines_of other) ≡ nowhere → counted (mesh_of k n).relays (link_count (mesh_of k n)) (lines_of other) ≡ true
    → Shuffled (edges_of (lines_of text)) (edges_of (lines_of other)) → read_of k n other ≡ yes
order_free k n text other e f c s =
    let t = yes_means k n text e in
    means_yes k n other (record { export = t.export; formed = f; counts = c; mesh = shuffled-mesh (mesh_of k n) s t.mesh })

-- ---- what is written is read

shuffled-same : (es : List Edge) → Shuffled es es
shuffled-same [] = once.none
shuffled-same (e ∷ es) = keep (shuffled-same es)

-- the numbers of a mesh's lines can be written
small_of : (es : List Edge) → ((a b : ℕ) → 0 < times a b es → (a < limit) × (b < limit)) → Small es
small_of [] h = omega arith
small_of (edge a b ∷ es) h =
    let (p, q) = h a b (omega (arith, times-on a b a b es (same_straight a b a b refl refl))) in
    (p, q, small_of es (λ c d g. h c d (⊎_elim (λ t. omega (arith, times-on c d a b es t)) (λ f. omega (arith, times_off c d a b es f)) (true-or (same c d a b)))))

module _ (k n : ℕ) (x : first (export_faults_in (kind_of k) n) ≡ none) where
  abbrev file : List Edge → List ℕ
  file es = pair_text counts_word (mesh_of k n).relays (link_count (mesh_of k n)) ++ edges_text es

  few-relays : (mesh_of k n).relays < limit
  few-relays = omega (arith, (export_fine k n x).small)

  few-links : link_count (mesh_of k n) < limit
  few-links = omega (arith, div-le_self ((mesh_of k n).relays * (mesh_of k n).links) 2, mul-le-mul (export_fine k n x).small (export_fine k n x).few)

  pub shuffled_reads : (es : List Edge) → Shuffled (edges (mesh_of k n)) es → read_of k n (pair_text counts_word (mesh_of k n).relays (link_count (mesh_of k n)) ++ edges_text es) ≡ yes
  shuffled_reads es s =
      let i = shuffled-mesh (mesh_of k n) s (edges-mesh (mesh_of k n) ((kind_of k).near n) (links-of k n x)) in
      let small = small_of es (λ a b h. let l = link_sound (mesh_of k n) a b (i.only a b h) in (omega (arith, l.first_in, few-relays), omega (arith, l.second_in, few-relays))) in
      let ls = file-lines (mesh_of k n).relays (link_count (mesh_of k n)) es few-relays few-links small in
      means_yes k n (file es) (record {
        export = x;
        formed = ap (malformed_at false 0) ls ∙ file_formed (mesh_of k n).relays (link_count (mesh_of k n)) es;
        counts = ap (counted (mesh_of k n).relays (link_count (mesh_of k n))) ls ∙ file-counted (mesh_of k n).relays (link_count (mesh_of k n)) es;
        mesh = subst (λ (l : List Line). IsMesh (mesh_of k n) (edges_of l)) (sym ls)
            (same-mesh (mesh_of k n) es (edges_of (counts (mesh_of k n).relays (link_count (mesh_of k n)) ∷ linked es)) (λ a b. sym (file-edges a b (mesh_of k n).relays (link_count (mesh_of k n)) es)) i);
      })

  pub written_reads : read_of k n (graph_text (mesh_of k n)) ≡ yes
  unfolding graph_text
  written_reads = shuffled_reads (edges (mesh_of k n)) (shuffled-same (edges (mesh_of k n)))
