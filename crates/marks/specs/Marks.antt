-- Marks of relays in a list of words: two bits of one word for each relay (`marked`, `put`). Which bits a relay has is no matter for any answer, only for
-- how seldom two relays share them. Definitions; assumes nothing.
use Rattle.std.specs.Prelude.{ℕ, ◌+◌, ◌*◌, ◌/◌, ◌%◌, ◌^◌, Bool, ◌&&◌, List, eqb, get_or, set}
use Rattle.std.specs.Int.Bits.{bit_or}
use Rattle.bits.specs.Bit.{bit}

-- the words that marks take
abbrev pub words : ℕ
words = 256

unfoldable pub scatter : ℕ → ℕ
scatter x = x % 4294967296 * 1640531527 + x / 4294967296 * 625341585

-- the word of a scattered number, and the two bits in it
unfoldable pub word_at : ℕ → ℕ
word_at s = s / 16777216 % 256

unfoldable pub first_at : ℕ → ℕ
first_at s = s / 4294967296 % 64

unfoldable pub second_at : ℕ → ℕ
second_at s = s / 262144 % 64

-- whether a word has both bits, and the word with both
unfoldable pub both : (s w : ℕ) → Bool
both s w = eqb (bit (first_at s) w) 1 && eqb (bit (second_at s) w) 1

unfoldable pub with : (s w : ℕ) → ℕ
with s w = bit_or (bit_or w (2 ^ first_at s)) (2 ^ second_at s)

-- whether relay x has its mark
unfoldable pub marked : List ℕ → ℕ → Bool
marked marks x = both (scatter x) (get_or marks (word_at (scatter x)) 0)

-- the marks with that of relay x
unfoldable pub put : List ℕ → ℕ → List ℕ
put marks x = set marks (word_at (scatter x)) (with (scatter x) (get_or marks (word_at (scatter x)) 0))
