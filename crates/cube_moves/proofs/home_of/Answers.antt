-- `cube_moves::home_of` meets its contract. Assumes nothing.
use Rattle.std.proofs.Common.{refl, sym, ◌∙◌}
use Rattle.bits.specs.Laws.{bit-on, bit_off, clash}
use Rattle.cube_moves.proofs.home_of.Goals as goal

pub returns-then-bit : goal.returns-then-bit
returns-then-bit c = record { barred = λ o. c.alike.ensures; ajar = λ z. absurd (clash z (bit-on _ _ (sym c.bit.ensures ∙ c.if-bit.true))) }

pub returns : goal.returns
returns c = record { barred = λ o. absurd (clash (bit_off _ _ (sym c.bit.ensures ∙ c.if-bit.false)) o); ajar = λ z. refl }
