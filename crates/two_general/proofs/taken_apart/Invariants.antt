-- `two_general::taken_apart` meets its contract. Assumes nothing.
use Rattle.std.proofs.Common.{◌≡◌}
use Rattle.cube_math.specs.Masks.{at}
use Rattle.two_parts.specs.Two.{block_of, slot_of}
use Rattle.two_general.specs.Filled.{Filled}
use Rattle.two_general.proofs.taken_apart.Given as goal

abbrev pub invariant-loop-i : goal.invariant-loop-i
invariant-loop-i l = Filled 8 l.i (λ j v. v ≡ block_of l.order.0 (at l.targets j)) l.blocks × Filled 8 l.i (λ j v. v ≡ slot_of l.order.0 (at l.targets j)) l.slots
