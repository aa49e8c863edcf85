-- The classes along the cyclic Gray order, of at most 3 bits: the place of a class in the order (`place`), the class after c (`after`), and how many moves it is from one class to
-- another (`away`). Their laws are in proofs/Cycle.antt.
use Rattle.std.specs.Prelude.{ℕ, ◌+◌, ◌-◌, ◌/◌, ◌%◌, ◌^◌}
use Rattle.std.specs.Int.Bits.{bit_xor}
use Rattle.bits.specs.Gray.{gray}

-- the place of class c in the Gray order: gray (place c) is c, for classes of 3 bits
unfoldable pub place : ℕ → ℕ
place c = bit_xor (bit_xor c (c / 2)) (c / 4)

-- the class after class c, of k bits: the first follows the last
unfoldable pub after : (k c : ℕ) → ℕ
after k c = gray ((place c + 1) % 2 ^ k)

-- the moves from class c to class e
unfoldable pub away : (k c e : ℕ) → ℕ
away k c e = (place e + 2 ^ k - place c) % 2 ^ k
