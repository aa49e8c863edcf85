-- A request as the text of a line (`line_text`): in the two-level mesh of order 1, from 0 to 5 and 1, it is `two 1 0 5 1` and a line end. A text is
-- that of a request where it begins with the request's line (`IsLine`). Assumes nothing.
use Rattle.std.specs.Prelude.{ℕ, ◌≤◌, ◌<◌, ◌≡◌, ◌⊎◌, List, [], ◌∷◌, ◌++◌, eqb, length, get_or}
use Rattle.scan.specs.Scan.{pick}
use Rattle.mesh.specs.Kinds.{CUBE, TWO}
use Rattle.decimal.specs.Digits.{digits}
use Rattle.decimal.specs.Number.{limit}

-- a request as numbers: the kind and size of a mesh, the source, the targets
pub record Request : Type 0 where
  pub kind : ℕ
  pub size : ℕ
  pub source : ℕ
  pub targets : List ℕ

-- `cube`, `two`
abbrev pub cube_word : List ℕ
cube_word = 99 ∷ 117 ∷ 98 ∷ 101 ∷ []

abbrev pub two_word : List ℕ
two_word = 116 ∷ 119 ∷ 111 ∷ []

abbrev pub word : ℕ → List ℕ
word kind = pick (eqb kind CUBE) cube_word two_word

-- numbers in decimal, a space before each
unfoldable pub spaced : List ℕ → List ℕ
spaced [] = []
spaced (n ∷ l) = 32 ∷ (digits n ++ spaced l)

-- a line end
abbrev pub line_end : List ℕ
line_end = 10 ∷ []

-- all numbers of a request, in the line's order
abbrev pub numbers : Request → List ℕ
numbers q = q.size ∷ q.source ∷ q.targets

abbrev pub line_text : Request → List ℕ
line_text q = word q.kind ++ (spaced (numbers q) ++ line_end)

-- each number of a list is below 2^64
abbrev pub Below : List ℕ → Type 0
Below l = (i : ℕ) → i < length l → get_or l i 0 < limit

-- the most targets of a line, and its most bytes
abbrev pub most_targets : ℕ
most_targets = 64

abbrev pub most_bytes : ℕ
most_bytes = 1024

-- a request that a line may state
pub record Stated (q : Request) : Type 0 where
  pub kind : (q.kind ≡ CUBE) ⊎ (q.kind ≡ TWO)
  pub below : Below (numbers q)
  pub few : length q.targets ≤ most_targets

-- a text begins with the line of a request, which is not too long; what follows its line end does not matter
pub record IsLine (text : List ℕ) (q : Request) : Type 0 where
  pub stated : Stated q
  pub rest : List ℕ
  pub spelt : text ≡ line_text q ++ rest
  pub short : length (line_text q) ≤ most_bytes
