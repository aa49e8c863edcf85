-- `two_takeover::met` meets its contract. Assumes nothing.
use Rattle.std.proofs.Common.{ℕ, ◌<◌}
use Rattle.cube_math.specs.Masks.{at}
use Rattle.two_takeover.specs.Over.{Meets}
use Rattle.two_takeover.proofs.met.Given as goal

abbrev pub invariant-loop-i : goal.invariant-loop-i
invariant-loop-i l = (j : ℕ) → j < l.i → Meets (at l.targets.blocks) (at l.targets.slots) (at l.gates.slots) l.gates.gated l.b l.x j → ⊥
