-- The links of a file marked line by line: one line (`Right`, `Fails`, `Ends`), a loop over them (`Judging`), and what the file then comes to. Assumes nothing.
use Rattle.std.specs.Prelude.{ℕ, zero, suc, ◌+◌, ◌-◌, ◌*◌, ◌/◌, ◌≤◌, ◌<◌, ◌≡◌, Bool, true, false, not, ◌&&◌, ◌≢◌, List, [], ◌∷◌, eqb, length, drop, replicate}
use Rattle.std.specs.Prelude as rust
use Rattle.std.specs.Prelude.{Some, None, Result, Ok, Err, ⊤}
use Rattle.std.proofs.Math.Path.{refl}
use Rattle.std.proofs.Common.{sym, ap, ap₂, ◌∙◌, subst, arith, eq-eqb, ne_eqb}
use Rattle.std.proofs.Math.Option as maths
use Rattle.scan.specs.Scan.{Spot, nowhere, at, pick, any}
use Rattle.scan.specs.Laws.{true-false}
use Rattle.answers.specs.Order.{first}
use Rattle.answers.specs.Told.{against}
use Rattle.answers.specs.declared.Refusal.{Refusal}
use Rattle.paths.specs.Mesh.{Mesh}
use Rattle.mesh.specs.Kinds.{kind_of, mesh_of}
use Rattle.dimacs.specs.Text.{Edge, edge, link_count}
use Rattle.dimacs.specs.Parse.{Line, comment, counts, link, malformed, line_at, lines, lines_of}
use Rattle.dimacs.specs.Says.{export_faults_in, counted, is_link, stands, wrong_at, edges_from, edges_of, missing, or_malformed, or_wrong, or_refused, judged, read_of, Verdict, yes}
use Rattle.dimacs.specs.Lines.{lines-all, lines_end, lines-broken}
use Rattle.dimacs.specs.Needs.{Exported, export_fine}
use Rattle.dimacs_size.specs.Sizes.{Rows}
use Rattle.dimacs_marks.specs.Marks.{Marked, Marks, marked-none, lacks_any, lacking-missing}
use Rattle.dimacs.specs.declared.Fault.TheVariants.{Refused, Malformed, WrongCounts, WrongLink, Missing}
use Rattle.dimacs_take.specs.Takes.{Taken}
use Rattle.dimacs_take.specs.declared.Line as code
use Rattle.dimacs_take.specs.declared.Line.TheVariants.{Comment, Counts, Link}
use Rattle.dimacs_read.specs.Forms.{Formed, next_is, one_less}

-- ---- what the definitions say, line by line

module _ (m : Mesh) (seen : List Edge) (k : ℕ) (ls : List Line) where
  wrong_none : wrong_at m seen k [] ≡ nowhere
  unfolding wrong_at
  wrong_none = refl

  wrong_comment : wrong_at m seen k (comment ∷ ls) ≡ wrong_at m seen (k + 1) ls
  unfolding wrong_at
  wrong_comment = refl

  wrong_counts : (a b : ℕ) → wrong_at m seen k (counts a b ∷ ls) ≡ wrong_at m seen (k + 1) ls
  unfolding wrong_at
  wrong_counts a b = refl

  wrong_link : (a b : ℕ) → wrong_at m seen k (link (edge a b) ∷ ls) ≡ pick (is_link m a b && not (stands a b seen)) (wrong_at m (edge a b ∷ seen) (k + 1) ls) (at (k + 1))
  unfolding wrong_at
  wrong_link a b = refl

  wrong_line : wrong_at m seen k (malformed ∷ ls) ≡ wrong_at m seen (k + 1) ls
  unfolding wrong_at
  wrong_line = refl

module _ (seen : List Edge) (ls : List Line) where
  edges_none : edges_from seen [] ≡ seen
  unfolding edges_from
  edges_none = refl

  edges_comment : edges_from seen (comment ∷ ls) ≡ edges_from seen ls
  unfolding edges_from
  edges_comment = refl

  edges-counts : (a b : ℕ) → edges_from seen (counts a b ∷ ls) ≡ edges_from seen ls
  unfolding edges_from
  edges-counts a b = refl

  edges-link : (e : Edge) → edges_from seen (link e ∷ ls) ≡ edges_from (e ∷ seen) ls
  unfolding edges_from
  edges-link e = refl

  edges-line : edges_from seen (malformed ∷ ls) ≡ edges_from seen ls
  unfolding edges_from
  edges-line = refl

-- ---- one line

-- the lines seen, and after this one
pub record Goes (m : Mesh) (text : List ℕ) (from next : ℕ) (seen seen' : List Edge) : Type 0 where
  pub wrong : (most k : ℕ) → wrong_at m seen k (lines (suc most) (drop from text)) ≡ wrong_at m seen' (k + 1) (lines most (drop next text))
  pub edges : (most : ℕ) → edges_from seen (lines (suc most) (drop from text)) ≡ edges_from seen' (lines most (drop next text))

-- what a line that is right comes to, one that is wrong, and one that is malformed
pub record Right (k n : ℕ) (text : List ℕ) (from : ℕ) (was : List ℕ) (next : ℕ) (now : List ℕ) : Type 0 where
  pub later : from < next
  pub within : next ≤ length text
  pub long : length now ≡ length was
  pub goes : (seen : List Edge) → Marked k n was seen → (seen' : List Edge) × Goes (mesh_of k n) text from next seen seen' × Marked k n now seen'

pub record Fails (k n : ℕ) (text : List ℕ) (from : ℕ) (was now : List ℕ) : Type 0 where
  pub long : length now ≡ length was
  pub wrong : (seen : List Edge) → Marked k n was seen → (most line : ℕ) → wrong_at (mesh_of k n) seen line (lines (suc most) (drop from text)) ≡ at (line + 1)

pub record Ends (k n : ℕ) (text : List ℕ) (from : ℕ) (was now : List ℕ) : Type 0 where
  pub left : now ≡ was
  pub wrong : (seen : List Edge) (most line : ℕ) → wrong_at (mesh_of k n) seen line (lines (suc most) (drop from text)) ≡ nowhere
  pub edges : (seen : List Edge) (most : ℕ) → edges_from seen (lines (suc most) (drop from text)) ≡ seen

-- what is said of a line by itself, and left
abbrev pub Passes : (k n : ℕ) → code.Line → (was : List ℕ) → Bool → (now : List ℕ) → Type 0
Passes k n (Link a b) was r now = Marks k n a b was r now
Passes k n (Counts a b) was r now = (r ≡ true) × (now ≡ was)
Passes k n Comment was r now = (r ≡ true) × (now ≡ was)

pub passes_long : (k n : ℕ) (x : code.Line) (was : List ℕ) (r : Bool) (now : List ℕ) → Passes k n x was r now → length now ≡ length was
passes_long k n (Link a b) was r now p = p.long
passes_long k n (Counts a b) was r now p = ap length p.1
passes_long k n Comment was r now p = ap length p.1

broken : (text : List ℕ) (from : ℕ) → from < length text → Taken text from None (line_at (drop from text)) → (most : ℕ) → lines (suc most) (drop from text) ≡ malformed ∷ []
broken text from h t most = lines-broken text from most h t.same

by_mark : {k n : ℕ} (text : List ℕ) (from : ℕ) → from < length text → {a b next : ℕ} {was : List ℕ} {f : Bool} {now : List ℕ} → Taken text from (Some (Link a b, next)) (line_at (drop from text)) → Marks k n a b was f now
    → (seen : List Edge) → Marked k n was seen → (most line : ℕ)
    → wrong_at (mesh_of k n) seen line (lines (suc most) (drop from text)) ≡ pick f (wrong_at (mesh_of k n) (edge a b ∷ seen) (line + 1) (lines most (drop next text))) (at (line + 1))
by_mark {k} {n} text from h {a} {b} {next} t p seen q most line =
    ap (wrong_at (mesh_of k n) seen line) (next_is text from h t most)
    ∙ wrong_link (mesh_of k n) seen line (lines most (drop next text)) a b
    ∙ ap (λ (x : Bool). pick x (wrong_at (mesh_of k n) (edge a b ∷ seen) (line + 1) (lines most (drop next text))) (at (line + 1))) (sym (p.says seen q))

module _ (k n : ℕ) (text : List ℕ) (from : ℕ) (h : from < length text) where
  -- the line goes on with the lines seen and itself
  pub goes_on : (x : code.Line) (was : List ℕ) (r : Bool) (now : List ℕ) {next : ℕ} → Taken text from (Some (x, next)) (line_at (drop from text)) → Passes k n x was r now → r ≡ true
      → (seen : List Edge) → Marked k n was seen → (seen' : List Edge) × Goes (mesh_of k n) text from next seen seen' × Marked k n now seen'
  goes_on Comment was r now {next} t p z seen q = (
    seen,
    record {
      wrong = λ most line. ap (wrong_at (mesh_of k n) seen line) (next_is text from h t most) ∙ wrong_comment (mesh_of k n) seen line (lines most (drop next text));
      edges = λ most. ap (edges_from seen) (next_is text from h t most) ∙ edges_comment seen (lines most (drop next text));
    },
    subst (λ (l : List ℕ). Marked k n l seen) (sym p.1) q,
  )
  goes_on (Counts a b) was r now {next} t p z seen q = (
    seen,
    record {
      wrong = λ most line. ap (wrong_at (mesh_of k n) seen line) (next_is text from h t most) ∙ wrong_counts (mesh_of k n) seen line (lines most (drop next text)) a b;
      edges = λ most. ap (edges_from seen) (next_is text from h t most) ∙ edges-counts seen (lines most (drop next text)) a b;
    },
    subst (λ (l : List ℕ). Marked k n l seen) (sym p.1) q,
  )
  goes_on (Link a b) was r now {next} t p z seen q = (
    edge a b ∷ seen,
    record {
      wrong = λ most line. by_mark text from h t p seen q most line ∙ ap (λ (x : Bool). pick x (wrong_at (mesh_of k n) (edge a b ∷ seen) (line + 1) (lines most (drop next text))) (at (line + 1))) z;
      edges = λ most. ap (edges_from seen) (next_is text from h t most) ∙ edges-link seen (lines most (drop next text)) (edge a b);
    },
    p.next seen q z,
  )

  -- or it is the wrong one
  pub fails_at : (x : code.Line) (was : List ℕ) (r : Bool) (now : List ℕ) {next : ℕ} → Taken text from (Some (x, next)) (line_at (drop from text)) → Passes k n x was r now → r ≡ false
      → (seen : List Edge) → Marked k n was seen → (most line : ℕ) → wrong_at (mesh_of k n) seen line (lines (suc most) (drop from text)) ≡ at (line + 1)
  fails_at Comment was r now t p z seen q most line = absurd (true-false p.0 z)
  fails_at (Counts a b) was r now t p z seen q most line = absurd (true-false p.0 z)
  fails_at (Link a b) was r now {next} t p z seen q most line =
      by_mark text from h t p seen q most line ∙ ap (λ (x : Bool). pick x (wrong_at (mesh_of k n) (edge a b ∷ seen) (line + 1) (lines most (drop next text))) (at (line + 1))) z

-- what each line comes to, by itself
module _ (k n : ℕ) (text : List ℕ) (from : ℕ) (h : from < length text) {r : rust.Option (code.Line × ℕ)} (t : Taken text from r (line_at (drop from text))) where
  is : {s : rust.Option (code.Line × ℕ)} → r ≡ s → Taken text from s (line_at (drop from text))
  is e = subst (λ (x : rust.Option (code.Line × ℕ)). Taken text from x (line_at (drop from text))) e t

  right : (x : code.Line) (was : List ℕ) (f : Bool) (now : List ℕ) {next : ℕ} → r ≡ Some (x, next) → Passes k n x was f now → f ≡ true → Right k n text from was next now
  right x was f now e p z =
      let u = is e in
      record { later = u.within.0; within = u.within.1; long = passes_long k n x was f now p; goes = goes_on k n text from h x was f now u p z }

  module _ (was : List ℕ) where
    pub turn_comment : {next : ℕ} → r ≡ Some (Comment, next) → Right k n text from was next was
    turn_comment e = right Comment was true was e (refl, refl) refl

    pub turn-counts : {a b next : ℕ} → r ≡ Some (Counts a b, next) → Right k n text from was next was
    turn-counts {a} {b} e = right (Counts a b) was true was e (refl, refl) refl

    pub turn-over : r ≡ None → Ends k n text from was was
    turn-over e = record {
      left = refl;
      wrong = λ seen most line. ap (wrong_at (mesh_of k n) seen line) (broken text from h (is e) most) ∙ wrong_line (mesh_of k n) seen line [] ∙ wrong_none (mesh_of k n) seen (line + 1) [];
      edges = λ seen most. ap (edges_from seen) (broken text from h (is e) most) ∙ edges-line seen [] ∙ edges_none seen [];
    }

    module _ {a b next : ℕ} (e : r ≡ Some (Link a b, next)) {f : Bool} {now : List ℕ} (p : Marks k n a b was f now) where
      pub turn-link : f ≡ true → Right k n text from was next now
      turn-link z = right (Link a b) was f now e p z

      pub turn_wrong : f ≡ false → Fails k n text from was now
      turn_wrong z = record { long = p.long; wrong = fails_at k n text from h (Link a b) was f now (is e) p z }

-- ---- all lines

pub record Found (k n : ℕ) (text was : List ℕ) (line : ℕ) (now : List ℕ) : Type 0 where
  pub long : length now ≡ length was
  pub wrong : Marked k n was [] → wrong_at (mesh_of k n) [] 0 (lines_of text) ≡ at line

pub record Clean (k n : ℕ) (text was now : List ℕ) : Type 0 where
  pub long : length now ≡ length was
  pub wrong : Marked k n was [] → wrong_at (mesh_of k n) [] 0 (lines_of text) ≡ nowhere
  pub marked : Marked k n was [] → Marked k n now (edges_of (lines_of text))

abbrev pub Judged : (k n : ℕ) (text was : List ℕ) → rust.Option ℕ → List ℕ → Type 0
Judged k n text was (Some line) now = Found k n text was line now
Judged k n text was None now = Clean k n text was now

-- the lines up to a place are marked
pub record Seen (k n : ℕ) (text : List ℕ) (from line most : ℕ) (now : List ℕ) : Type 0 where
  pub seen : List Edge
  pub marked : Marked k n now seen
  pub wrong : wrong_at (mesh_of k n) [] 0 (lines_of text) ≡ wrong_at (mesh_of k n) seen line (lines most (drop from text))
  pub edges : edges_of (lines_of text) ≡ edges_from seen (lines most (drop from text))

pub record Judging (k n : ℕ) (text was : List ℕ) (from line : ℕ) (now : List ℕ) : Type 0 where
  pub most : ℕ
  pub enough : length text ≤ from + most
  pub few : line ≤ from
  pub within : from ≤ length text
  pub long : length now ≡ length was
  pub so_far : Marked k n was [] → Seen k n text from line most now

pub judge_start : (k n : ℕ) (text was : List ℕ) → Judging k n text was 0 0 was
judge_start k n text was = record {
  most = length text;
  enough = omega arith;
  few = omega arith;
  within = omega arith;
  long = refl;
  so_far = λ q. record { seen = []; marked = q; wrong = ap (wrong_at (mesh_of k n) [] 0) (lines-all text); edges = ap (edges_from []) (lines-all text) };
}

module _ {k n : ℕ} {text was : List ℕ} {from line : ℕ} {now : List ℕ} (j : Judging k n text was from line now) where
  as_most : from < length text → lines j.most (drop from text) ≡ lines (suc (j.most - 1)) (drop from text)
  as_most h = ap (λ (x : ℕ). lines x (drop from text)) (one_less text from h j.enough)

  pub judge_right : from < length text → {next : ℕ} {then : List ℕ} → Right k n text from now next then → Judging k n text was next (line + 1) then
  judge_right h {next} {then} r = record {
    most = j.most - 1;
    enough = omega (arith, j.enough, r.later);
    few = omega (arith, j.few, r.later);
    within = r.within;
    long = r.long ∙ j.long;
    so_far = λ q.
        let s = j.so_far q in
        let (seen', g, m) = r.goes s.seen s.marked in
        record {
          seen = seen';
          marked = m;
          wrong = s.wrong ∙ ap (wrong_at (mesh_of k n) s.seen line) (as_most h) ∙ g.wrong (j.most - 1) line;
          edges = s.edges ∙ ap (edges_from s.seen) (as_most h) ∙ g.edges (j.most - 1);
        };
  }

  pub judge_fails : from < length text → {then : List ℕ} → Fails k n text from now then → Found k n text was (line + 1) then
  judge_fails h f = record {
    long = f.long ∙ j.long;
    wrong = λ q. let s = j.so_far q in s.wrong ∙ ap (wrong_at (mesh_of k n) s.seen line) (as_most h) ∙ f.wrong s.seen s.marked (j.most - 1) line;
  }

  pub judge_ends : from < length text → {then : List ℕ} → Ends k n text from now then → Clean k n text was then
  judge_ends h {then} e = record {
    long = ap length e.left ∙ j.long;
    wrong = λ q. let s = j.so_far q in s.wrong ∙ ap (wrong_at (mesh_of k n) s.seen line) (as_most h) ∙ e.wrong s.seen (j.most - 1) line;
    marked = λ q.
        let s = j.so_far q in
        let same = s.edges ∙ ap (edges_from s.seen) (as_most h) ∙ e.edges s.seen (j.most - 1) in
        subst (λ (l : List ℕ). Marked k n l (edges_of (lines_of text))) (sym e.left) (subst (Marked k n now) (sym same) s.marked);
  }

  -- the same, by what is said of the line
  pub judge_more : (h : from < length text) (x : code.Line) (r : Bool) (then : List ℕ) {next : ℕ} → Taken text from (Some (x, next)) (line_at (drop from text)) → Passes k n x now r then → r ≡ true
      → Judging k n text was next (line + 1) then
  judge_more h x r then t p z = judge_right h (right k n text from h t x now r then refl p z)

  pub judge_found : (h : from < length text) (x : code.Line) (r : Bool) (then : List ℕ) {next : ℕ} → Taken text from (Some (x, next)) (line_at (drop from text)) → Passes k n x now r then → r ≡ false
      → Found k n text was (line + 1) then
  judge_found h x r then t p z = judge_fails h (record { long = passes_long k n x now r then p; wrong = fails_at k n text from h x now r then t p z })

  pub judge_over : (h : from < length text) → Taken text from None (line_at (drop from text)) → Clean k n text was now
  judge_over h t = judge_ends h (turn-over k n text from h t now refl)

  pub judge_all : length text ≤ from → Clean k n text was now
  judge_all h = record {
    long = j.long;
    wrong = λ q. let s = j.so_far q in s.wrong ∙ ap (wrong_at (mesh_of k n) s.seen line) (lines_end text from j.most h) ∙ wrong_none (mesh_of k n) s.seen line [];
    marked = λ q.
        let s = j.so_far q in
        let same = s.edges ∙ ap (edges_from s.seen) (lines_end text from j.most h) ∙ edges_none s.seen [] in
        subst (Marked k n now) (sym same) s.marked;
  }

-- ---- what a file comes to

-- one whose counts are right
abbrev pub links_of : (k n : ℕ) (text : List ℕ) → Verdict
links_of k n text = or_wrong (wrong_at (mesh_of k n) [] 0 (lines_of text)) (pick (missing (mesh_of k n) (edges_of (lines_of text))) (Err Missing) yes)

-- one that tells these counts
abbrev pub counted_of : (k n a b : ℕ) (text : List ℕ) → Verdict
counted_of k n a b text = pick (eqb a (mesh_of k n).relays && eqb b (link_count (mesh_of k n))) (links_of k n text) (Err WrongCounts)

pub links_wrong : (k n : ℕ) (text now : List ℕ) {s : rust.Option ℕ} {line : ℕ} → Judged k n text (replicate 2048 0) s now → s ≡ Some line → Err (WrongLink line) ≡ links_of k n text
links_wrong k n text now j e =
    let f = subst (λ (x : rust.Option ℕ). Judged k n text (replicate 2048 0) x now) e j in
    ap (λ (x : Spot). or_wrong x (pick (missing (mesh_of k n) (edges_of (lines_of text))) (Err Missing) yes)) (sym (f.wrong (marked-none k n)))

module _ {k n relays links : ℕ} (r : Rows k n relays links) (text now : List ℕ) {s : rust.Option ℕ} (j : Judged k n text (replicate 2048 0) s now) (e : s ≡ None) where
  clean : Clean k n text (replicate 2048 0) now
  clean = subst (λ (x : rust.Option ℕ). Judged k n text (replicate 2048 0) x now) e j

  by_marks : {b : Bool} → b ≡ any (lacks_any k n links now) 0 relays → pick b (Err Missing) yes ≡ links_of k n text
  by_marks {b} f =
      ap (λ (x : Bool). pick x (Err Missing) yes) (f ∙ lacking-missing r (clean.marked (marked-none k n)))
      ∙ ap (λ (x : Spot). or_wrong x (pick (missing (mesh_of k n) (edges_of (lines_of text))) (Err Missing) yes)) (sym (clean.wrong (marked-none k n)))

  pub links-missing : {b : Bool} → b ≡ any (lacks_any k n links now) 0 relays → b ≡ true → Err Missing ≡ links_of k n text
  links-missing f z = ap (λ (x : Bool). pick x (Err Missing) yes) (sym z) ∙ by_marks f

  pub links_yes : {b : Bool} → b ≡ any (lacks_any k n links now) 0 relays → b ≡ false → yes ≡ links_of k n text
  links_yes f z = ap (λ (x : Bool). pick x (Err Missing) yes) (sym z) ∙ by_marks f

-- by the counts that it tells
module _ {k n relays links : ℕ} (r : Rows k n relays links) (a b : ℕ) (text : List ℕ) where
  pub other-relays : a ≢ relays → Err WrongCounts ≡ counted_of k n a b text
  other-relays ne =
      ap (λ (x : Bool). pick (x && eqb b (link_count (mesh_of k n))) (links_of k n text) (Err WrongCounts)) (sym (ne_eqb a (mesh_of k n).relays (λ e. ne (e ∙ sym r.relays_are))))

  links_are : relays * links / 2 ≡ link_count (mesh_of k n)
  links_are = ap₂ (λ (x y : ℕ). x * y / 2) r.relays_are r.links_are

  by_relays : a ≡ relays → pick (eqb b (link_count (mesh_of k n))) (links_of k n text) (Err WrongCounts) ≡ counted_of k n a b text
  by_relays e = ap (λ (x : Bool). pick (x && eqb b (link_count (mesh_of k n))) (links_of k n text) (Err WrongCounts)) (sym (eq-eqb a (mesh_of k n).relays (e ∙ r.relays_are)))

  pub other-links : a ≡ relays → b ≢ relays * links / 2 → Err WrongCounts ≡ counted_of k n a b text
  other-links e ne =
      ap (λ (x : Bool). pick x (links_of k n text) (Err WrongCounts)) (sym (ne_eqb b (link_count (mesh_of k n)) (λ z. ne (z ∙ sym links_are)))) ∙ by_relays e

  pub counts-right : {v : Verdict} → a ≡ relays → b ≡ relays * links / 2 → v ≡ links_of k n text → v ≡ counted_of k n a b text
  counts-right e f z =
      z ∙ ap (λ (x : Bool). pick x (links_of k n text) (Err WrongCounts)) (sym (eq-eqb b (link_count (mesh_of k n)) (f ∙ links_are))) ∙ by_relays e

-- by what stands against the mesh, and then by its lines
module _ (k n : ℕ) (text : List ℕ) {c : Result ⊤ Refusal} (e : against c ≡ first (export_faults_in (kind_of k) n)) where
  pub read_refused : {why : Refusal} → c ≡ Err why → Err (Refused why) ≡ read_of k n text
  read_refused z = ap (λ (o : maths.Option Refusal). or_refused o (judged (mesh_of k n) (lines_of text))) (sym (ap against z) ∙ e)

  module _ (z : c ≡ Ok tt) where
    pub read_exported : Exported k n
    read_exported = export_fine k n (sym e ∙ ap against z)

    as_judged : judged (mesh_of k n) (lines_of text) ≡ read_of k n text
    as_judged = ap (λ (o : maths.Option Refusal). or_refused o (judged (mesh_of k n) (lines_of text))) (sym (ap against z) ∙ e)

    abbrev after : Bool → Verdict
    after b = pick b (links_of k n text) (Err WrongCounts)

    module _ {f : Result (rust.Option (ℕ × ℕ)) ℕ} (g : Formed (lines_of text) f) where
      formed : {x : Result (rust.Option (ℕ × ℕ)) ℕ} → f ≡ x → Formed (lines_of text) x
      formed {x} y = subst (Formed (lines_of text)) y g

      pub read_malformed : {line : ℕ} → f ≡ Err line → Err (Malformed line) ≡ read_of k n text
      read_malformed {line} y = ap (λ (s : Spot). or_malformed s (after (counted (mesh_of k n).relays (link_count (mesh_of k n)) (lines_of text)))) (sym (formed y)) ∙ as_judged

      pub read_headless : f ≡ Ok None → Err WrongCounts ≡ read_of k n text
      read_headless y =
          let p = formed y in
          ap after (sym (p.1 (mesh_of k n).relays (link_count (mesh_of k n))))
          ∙ ap (λ (s : Spot). or_malformed s (after (counted (mesh_of k n).relays (link_count (mesh_of k n)) (lines_of text)))) (sym p.0) ∙ as_judged

      pub read-counted : {a b : ℕ} {v : Verdict} → f ≡ Ok (Some (a, b)) → v ≡ counted_of k n a b text → v ≡ read_of k n text
      read-counted {a} {b} y w =
          let p = formed y in
          w ∙ ap after (sym (p.1 (mesh_of k n).relays (link_count (mesh_of k n))))
          ∙ ap (λ (s : Spot). or_malformed s (after (counted (mesh_of k n).relays (link_count (mesh_of k n)) (lines_of text)))) (sym p.0) ∙ as_judged
