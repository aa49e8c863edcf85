-- A file of a `p` line and `e` lines is read line by line as these (`file-lines`). Assumes nothing.
use Rattle.std.specs.Prelude.{ℕ, zero, suc, ◌+◌, ◌≤◌, ◌<◌, ◌≡◌, refl, true, false, length, drop}
use Rattle.std.proofs.Common.{◌∙◌, ⊎_elim, arith, length-append, eq-eqb}
use Rattle.std.proofs.Math.Path.{ap}
use mathlib.Core.List.{List, [], ◌∷◌, ◌++◌, append_assoc, append-nil}
use Rattle.scan.specs.Scan.{nowhere}
use Rattle.scan.specs.Laws.{true-or}
use Rattle.decimal.specs.Digits.{digits}
use Rattle.decimal.specs.Number.{limit, number_complete}
use Rattle.line.specs.Text.{spaced, line_end}
use Rattle.line.specs.Parse.{Field, field_of, field, on_field, field_space, field_end}
use Rattle.dimacs.specs.Text.{Edge, edge, counts_word, pair_text, edge_text, edges_text}
use Rattle.dimacs.specs.Parse.{Line, counts, link, malformed, Piece, piece, on_piece, unpaired, pair, closed, second, two, piece_of, edge_line, line_at, lines, lines_of}
use Rattle.dimacs.specs.Says.{malformed_at, counted, same, times, edges_from}
use Rattle.dimacs.specs.Edges.{all_true, times_none, times-on, times_off}

-- ---- one line

module _ (a b : ℕ) (rest : List ℕ) where
  pub pair-bytes : (spaced (a ∷ b ∷ []) ++ line_end) ++ rest ≡ 32 ∷ (digits a ++ (32 ∷ (digits b ++ (10 ∷ rest))))
  unfolding spaced
  pair-bytes =
      append_assoc (32 ∷ (digits a ++ (32 ∷ (digits b ++ [])))) line_end rest
      ∙ ap (λ (l : List ℕ). 32 ∷ l) (append_assoc (digits a) (32 ∷ (digits b ++ [])) (10 ∷ rest))
      ∙ ap (λ (l : List ℕ). 32 ∷ (digits a ++ (32 ∷ (l ++ (10 ∷ rest))))) (append-nil (digits b))

  pub two-read : a < limit → b < limit → two ((spaced (a ∷ b ∷ []) ++ line_end) ++ rest) ≡ pair a b rest
  unfolding two
  two-read h g =
      ap (λ (l : List ℕ). on_field (field l) unpaired unpaired second) pair-bytes
      ∙ ap (λ (f : Field). on_field f unpaired unpaired second)
      (field_space (digits a ++ (32 ∷ (digits b ++ (10 ∷ rest)))) ∙ ap field_of (number_complete a (32 ∷ (digits b ++ (10 ∷ rest))) h refl))
      ∙ ap (λ (f : Field). on_field f unpaired unpaired (closed a)) (field_space (digits b ++ (10 ∷ rest)) ∙ ap field_of (number_complete b (10 ∷ rest) g refl))
      ∙ ap (λ (f : Field). on_field f (pair a b rest) unpaired (λ n l. unpaired)) (field_end rest)

  pub edge_read : a < limit → b < limit → line_at (edge_text (edge a b) ++ rest) ≡ piece (edge_line a b) rest
  unfolding line_at
  edge_read h g = ap (piece_of edge_line) (two-read h g)

  pub counts-read : a < limit → b < limit → line_at (pair_text counts_word a b ++ rest) ≡ piece (counts a b) rest
  unfolding line_at
  counts-read h g = ap (piece_of counts) (two-read h g)

-- ---- all lines

abbrev pub linked : List Edge → List Line
linked [] = []
linked (e ∷ es) = link e ∷ linked es

-- the numbers of each line can be written
abbrev pub Small : List Edge → Type 0
Small [] = 0 ≤ 0
Small (edge a b ∷ es) = (a < limit) × (b < limit) × Small es

line_step : (most b : ℕ) (l : List ℕ) (x : Line) (rest : List ℕ) → line_at (b ∷ l) ≡ piece x rest → lines (suc most) (b ∷ l) ≡ x ∷ lines most rest
unfolding lines
line_step most b l x rest e = ap (λ (p : Piece). on_piece p (malformed ∷ []) (λ x rest. x ∷ lines most rest)) e

blank : (most : ℕ) → lines most [] ≡ []
unfolding lines
blank zero = refl
blank (suc most) = refl

text-none : edges_text [] ≡ []
unfolding edges_text
text-none = refl

text-more : (e : Edge) (es : List Edge) → edges_text (e ∷ es) ≡ edge_text e ++ edges_text es
unfolding edges_text
text-more e es = refl

long_more : (a b : ℕ) (es : List Edge) → length (edges_text (edge a b ∷ es)) ≡ suc (length (spaced (a ∷ b ∷ []) ++ line_end)) + length (edges_text es)
long_more a b es = ap length (text-more (edge a b) es) ∙ length-append (edge_text (edge a b)) (edges_text es)

pub edges-lines : (most : ℕ) (es : List Edge) → length (edges_text es) ≤ most → Small es → lines most (edges_text es) ≡ linked es
edges-lines most [] h s = ap (lines most) text-none ∙ blank most
edges-lines zero (edge a b ∷ es) h s = absurd (omega (arith, long_more a b es))
edges-lines (suc most) (edge a b ∷ es) h (p, q, r) =
    ap (lines (suc most)) (text-more (edge a b) es)
    ∙ line_step most 101 ((spaced (a ∷ b ∷ []) ++ line_end) ++ edges_text es) (edge_line a b) (edges_text es) (edge_read a b (edges_text es) p q)
    ∙ ap (λ (l : List Line). link (edge a b) ∷ l) (edges-lines most es (omega (arith, long_more a b es)) r)

pub file-lines : (n m : ℕ) (es : List Edge) → n < limit → m < limit → Small es → lines_of (pair_text counts_word n m ++ edges_text es) ≡ counts n m ∷ linked es
unfolding lines_of
file-lines n m es h g s =
    line_step (length (drop 1 (pair_text counts_word n m ++ edges_text es))) 112 (drop 1 (pair_text counts_word n m ++ edges_text es)) (counts n m) (edges_text es) (counts-read n m (edges_text es) h g)
    ∙ ap (λ (l : List Line). counts n m ∷ l)
    (edges-lines (length (drop 1 (pair_text counts_word n m ++ edges_text es))) es
    (omega (arith, length-append (pair_text counts_word n m) (edges_text es))) s)

-- ---- what they come to

headed_fine : (k : ℕ) (es : List Edge) → malformed_at true k (linked es) ≡ nowhere
unfolding malformed_at
headed_fine k [] = refl
headed_fine k (e ∷ es) = headed_fine (k + 1) es

pub file_formed : (n m : ℕ) (es : List Edge) → malformed_at false 0 (counts n m ∷ linked es) ≡ nowhere
unfolding malformed_at
file_formed n m es = headed_fine (0 + 1) es

pub file-counted : (n m : ℕ) (es : List Edge) → counted n m (counts n m ∷ linked es) ≡ true
unfolding counted
file-counted n m es = all_true (eq-eqb n n refl) (eq-eqb m m refl)

-- the lines that were read are those of the file, the latest first
onto : (a b : ℕ) (seen es : List Edge) → times a b (edges_from seen (linked es)) ≡ times a b es + times a b seen
unfolding edges_from
onto a b seen [] = omega (arith, times_none a b)
onto a b seen (edge c d ∷ es) = ⊎_elim
    (λ t. omega (arith, onto a b (edge c d ∷ seen) es, times-on a b c d seen t, times-on a b c d es t))
    (λ f. omega (arith, onto a b (edge c d ∷ seen) es, times_off a b c d seen f, times_off a b c d es f))
    (true-or (same a b c d))

pub file-edges : (a b n m : ℕ) (es : List Edge) → times a b (edges_from [] (counts n m ∷ linked es)) ≡ times a b es
unfolding edges_from
file-edges a b n m es = onto a b [] es ∙ omega (arith, times_none a b)
