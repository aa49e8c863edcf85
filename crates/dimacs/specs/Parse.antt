-- How a file is read: line by line, each from the front of what is left (`line_at`), up to the end or the first line that is none (`lines_of`). A line is ended by a newline; one whose first
-- byte is `c` is a comment whatever follows; every other is exactly `p edge N M` or `e U V`, with one space before each number, as in the request line of `line`. Assumes nothing.
use Rattle.std.specs.Prelude.{ℕ, zero, suc, List, [], ◌∷◌, eqb, length, drop}
use Rattle.std.proofs.Math.Option.{Option, none, some}
use Rattle.scan.specs.Scan.{pick}
use Rattle.line.specs.Parse.{field, on_field, begins}
use Rattle.dimacs.specs.Text.{Edge, edge, counts_word}

pub data Line : Type 0 where
  comment : Line
  counts : ℕ → ℕ → Line
  link : Edge → Line
  malformed : Line

-- what stands at the front of a text: a line, and the text after it
pub data Piece : Type 0 where
  broken : Piece
  piece : Line → List ℕ → Piece

-- the text after the next newline
unfoldable pub skip : List ℕ → Option (List ℕ)
skip [] = none
skip (b ∷ l) = pick (eqb b 10) (some l) (skip l)

abbrev pub comment_of : Option (List ℕ) → Piece
comment_of none = broken
comment_of (some rest) = piece comment rest

-- two numbers with a space before each, a newline, and the text after it
pub data Pair : Type 0 where
  unpaired : Pair
  pair : ℕ → ℕ → List ℕ → Pair

abbrev pub closed : ℕ → ℕ → List ℕ → Pair
closed a b rest = on_field (field rest) (pair a b (drop 1 rest)) unpaired (λ n l. unpaired)

abbrev pub second : ℕ → List ℕ → Pair
second a rest = on_field (field rest) unpaired unpaired (closed a)

unfoldable pub two : List ℕ → Pair
two text = on_field (field text) unpaired unpaired second

abbrev pub piece_of : (ℕ → ℕ → Line) → Pair → Piece
piece_of f unpaired = broken
piece_of f (pair a b rest) = piece (f a b) rest

abbrev pub edge_line : ℕ → ℕ → Line
edge_line a b = link (edge a b)

unfoldable pub line_at : List ℕ → Piece
line_at [] = broken
line_at (b ∷ l) =
    pick (eqb b 99) (comment_of (skip l))
    (pick (eqb b 101) (piece_of edge_line (two l))
    (pick (begins counts_word (b ∷ l)) (piece_of counts (two (drop 6 (b ∷ l)))) broken))

abbrev pub on_piece : {A : Type 0} → Piece → A → (Line → List ℕ → A) → A
on_piece broken a f = a
on_piece (piece x rest) a f = f x rest

-- the lines of a text; the number bounds how many there are
unfoldable pub lines : ℕ → List ℕ → List Line
lines zero text = []
lines (suc most) [] = []
lines (suc most) (b ∷ l) = on_piece (line_at (b ∷ l)) (malformed ∷ []) (λ x rest. x ∷ lines most rest)

unfoldable pub lines_of : List ℕ → List Line
lines_of text = lines (length text) text
