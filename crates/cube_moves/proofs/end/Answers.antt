-- `cube_moves::end` meets its contract. Assumes nothing.
use Rattle.std.proofs.Common.{sym, ap, ◌∙◌, arith, length}
use Rattle.bits.specs.Laws.{bit-on, bit_off}
use Rattle.cube_moves.specs.Lone.{ended_turn, ended_same}
use Rattle.cube_moves.proofs.end.Goals as goal

pub push-requires : goal.push-requires
push-requires c = (c.requires.2, omega (arith, ap length c.requires.3, c.requires.1))

pub returns-then-bit : goal.returns-then-bit
returns-then-bit c =
    ended_turn _ _ _ _ _ _ _ _ c.requires.3 c.flip-u.ensures c.push.ensures (bit-on _ _ (sym c.bit.ensures ∙ c.if-bit.true))

pub returns : goal.returns
returns c = ended_same _ _ _ _ _ _ c.requires.3 (bit_off _ _ (sym c.bit.ensures ∙ c.if-bit.false))
