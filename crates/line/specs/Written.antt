-- An answer as text: `fan k` and a line for each path, its hops and then all its relays (`fan_text`), or `refused N P` (`refused_text`). What stands against
-- writing it, and what is told and left. Assumes nothing.
use Rattle.std.specs.Prelude.{ℕ, zero, suc, ◌+◌, ◌*◌, Bool, true, false, List, [], ◌∷◌, ◌++◌, leb, ltb, length, take, drop}
use Rattle.std.proofs.Math.Option.{Option}
use Rattle.scan.specs.Scan.{pick, any}
use Rattle.answers.specs.Order.{first}
use Rattle.answers.specs.Told.{Told, tell, leaves, number, place}
use Rattle.answers.specs.declared.Refusal.{Refusal}
use Rattle.paths.specs.Fan.{hops}
use Rattle.decimal.specs.Digits.{digits}
use Rattle.line.specs.Text.{spaced, line_end}
use Rattle.line.specs.Says.{line_faults}

-- ---- the text of an answer

-- `fan`, `refused`
abbrev pub fan_word : List ℕ
fan_word = 102 ∷ 97 ∷ 110 ∷ []

abbrev pub refused_word : List ℕ
refused_word = 114 ∷ 101 ∷ 102 ∷ 117 ∷ 115 ∷ 101 ∷ 100 ∷ []

-- the relays of path i, the source first, where a path takes w places
abbrev pub relays_of : (w : ℕ) (places counts : List ℕ) (i : ℕ) → List ℕ
relays_of w places counts i = take (hops counts i + 1) (drop (i * w) places)

-- a path's hops and its relays
abbrev pub path_text : ℕ → List ℕ → List ℕ
path_text n relays = digits n ++ (spaced relays ++ line_end)

-- the first k paths, a line each
unfoldable pub paths_text : (w : ℕ) (places counts : List ℕ) (k : ℕ) → List ℕ
paths_text w places counts zero = []
paths_text w places counts (suc k) = paths_text w places counts k ++ path_text (hops counts k) (relays_of w places counts k)

abbrev pub fan_text : (k w : ℕ) (places counts : List ℕ) → List ℕ
fan_text k w places counts = (fan_word ++ (spaced (k ∷ []) ++ line_end)) ++ paths_text w places counts k

-- the number and the place of a refusal
abbrev pub refused_text : Refusal → List ℕ
refused_text why = refused_word ++ (spaced (number why ∷ place why ∷ []) ++ line_end)

-- ---- what is told and left

-- a count leaves no room for its path in w places
abbrev pub overlong : (w : ℕ) (counts : List ℕ) (i : ℕ) → Bool
overlong w counts i = leb w (hops counts i)

-- bytes enough for the longest text of k paths of w places, and of a refusal: a number takes 20 digits at most, and a space
abbrev pub fan_room : (k w : ℕ) → ℕ
fan_room k w = 25 + k * (w + 1) * 21

abbrev pub refused_room : ℕ
refused_room = 50

-- too few counts, places or bytes for k paths of w places, or a path that does not fit its places
abbrev pub wanting : (k w : ℕ) (places counts : List ℕ) (bytes : ℕ) → Bool
wanting k w places counts bytes =
    pick (ltb (length counts) k) true
    (pick (ltb (length places) (k * w)) true
    (pick (any (overlong w counts) 0 k) true (ltb bytes (fan_room k w))))

abbrev pub write_against : Bool → Option Refusal
write_against short = first (line_faults false short)

-- the text's length is told, and the text is left at the front of what was there
abbrev pub write_told : Bool → List ℕ → Told ℕ
write_told short text = tell (write_against short) 0 (length text)

abbrev pub write_leaves : Bool → List ℕ → List ℕ → List ℕ
write_leaves short text was = leaves (write_against short) was (text ++ drop (length text) was)
