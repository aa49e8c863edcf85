-- The relay at the other end of a link (`near`): a bit of the slot changed, or the block's bit of the slot; and the bit of the relay's number that
-- it changes (`door`). Their laws are in proofs/NearLaws.antt.
use Rattle.std.specs.Prelude.{ℕ, ◌+◌, ltb}
use Rattle.bits.specs.Bit.{flip}
use Rattle.scan.specs.Scan.{pick}
use Rattle.two_parts.specs.Two.{block_of, slot_of, relay}

-- the relay at the other end of link i of u: bit i of the slot changed, or for i = m the block's bit of the slot
unfoldable pub near : (m u i : ℕ) → ℕ
near m u i = pick (ltb i m) (relay m (block_of m u) (flip (slot_of m u) i)) (relay m (flip (block_of m u) (slot_of m u)) (slot_of m u))

-- the bit of the relay's number that it changes
unfoldable pub door : (m u i : ℕ) → ℕ
door m u i = pick (ltb i m) i (m + slot_of m u)
