-- The mesh seen from block a, slot b, which becomes relay 0: block x, slot y become the block x xor a with each bit moved from place p to
-- place p xor b, and the slot y xor b.
use Rattle.std.specs.Prelude.{ℕ, zero, suc, ◌+◌, ◌*◌, ◌^◌}
use Rattle.std.specs.Int.Bits.{bit_xor}
use Rattle.bits.specs.Bit.{bit}
use Rattle.two_parts.specs.Two.{block_of, slot_of, relay}

-- the number whose bit i is f i, for each i below n
unfoldable pub gather : (f : ℕ → ℕ) (n : ℕ) → ℕ
gather f zero = 0
gather f (suc n) = gather f n + f n * 2 ^ n

-- x with each of its w bits moved from place p to place p xor b
unfoldable pub shuffled : (w b x : ℕ) → ℕ
shuffled w b x = gather (λ i. bit (bit_xor i b) x) w

unfoldable pub seen_block : (m a b x : ℕ) → ℕ
seen_block m a b x = shuffled (2 ^ m) b (bit_xor x a)

unfoldable pub seen_slot : (b y : ℕ) → ℕ
seen_slot b y = bit_xor y b

-- relay r as relay s sees it
unfoldable pub seen : (m s r : ℕ) → ℕ
seen m s r = relay m (seen_block m (block_of m s) (slot_of m s) (block_of m r)) (seen_slot (slot_of m s) (slot_of m r))
