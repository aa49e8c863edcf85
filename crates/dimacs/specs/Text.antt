-- A mesh as the text of a DIMACS edge file (`graph_text`): a line `p edge N M` with the counts of relays and links, then a line `e U V` for each link, the lower relay first,
-- ordered by the lower and then the higher, every relay one above its number here. Assumes nothing.
use Rattle.std.specs.Prelude.{ℕ, zero, suc, ◌+◌, ◌*◌, ◌/◌, ◌&&◌, List, [], ◌∷◌, ◌++◌, ltb}
use Rattle.scan.specs.Scan.{pick}
use Rattle.paths.specs.Mesh.{Mesh}
use Rattle.line.specs.Text.{spaced, line_end}

-- the two numbers of an `e` line
pub data Edge : Type 0 where
  edge : ℕ → ℕ → Edge

-- `p edge`, `e`
abbrev pub counts_word : List ℕ
counts_word = 112 ∷ 32 ∷ 101 ∷ 100 ∷ 103 ∷ 101 ∷ []

abbrev pub edge_word : List ℕ
edge_word = 101 ∷ []

-- a word, two numbers and a line end
abbrev pub pair_text : List ℕ → ℕ → ℕ → List ℕ
pair_text word a b = word ++ (spaced (a ∷ b ∷ []) ++ line_end)

abbrev pub edge_text : Edge → List ℕ
edge_text (edge a b) = pair_text edge_word a b

unfoldable pub edges_text : List Edge → List ℕ
edges_text [] = []
edges_text (e ∷ es) = edge_text e ++ edges_text es

-- what stands for 0, for 1 and so on below n, one after another
unfoldable pub each : {A : Type 0} → (ℕ → List A) → ℕ → List A
each f zero = []
each f (suc n) = each f n ++ f n

-- the line of u and v, where they are linked and u is the lower
abbrev pub upward : Mesh → ℕ → ℕ → List Edge
upward m u v = pick (ltb u v && m.linked u v) (edge (u + 1) (v + 1) ∷ []) []

-- the lines of a relay to the higher ones, and of all
unfoldable pub row : Mesh → ℕ → List Edge
row m u = each (upward m u) m.relays

unfoldable pub edges : Mesh → List Edge
edges m = each (row m) m.relays

-- half of the links that the relays have, each of which has two ends
abbrev pub link_count : Mesh → ℕ
link_count m = m.relays * m.links / 2

unfoldable pub graph_text : Mesh → List ℕ
graph_text m = pair_text counts_word m.relays (link_count m) ++ edges_text (edges m)
