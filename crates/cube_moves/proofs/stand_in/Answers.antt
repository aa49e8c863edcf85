-- `cube_moves::stand_in` meets its contract. Assumes nothing.
use Rattle.std.proofs.Common.{◌≡◌, ap, subst, ℕ, arith}
use lib.Count.{ones}
use Rattle.bits.specs.Bit.{bit}
use Rattle.bits.specs.Laws.{ones_clear}
use Rattle.cube_math.specs.Choose.{cleared}
use Rattle.cube_moves.specs.Cut.{stood_none, stood_some}
use Rattle.cube_moves.proofs.stand_in.Goals as goal

pub returns-then-home-eq0 : goal.returns-then-home-eq0
returns-then-home-eq0 c = stood_none _ _ _ _ _ _ c.if-home-eq0.true

pub beside-d-requires : goal.beside-d-requires
beside-d-requires c =
    let o = c.requires.2 _ c.lowest-h.ensures.set in (
      record { wide = c.requires.0.wide; room = λ j p. c.requires.0.room j (cleared c.args.far _ o j (subst (λ (y : ℕ). bit j y ≡ 1) c.flip.ensures p)).0 },
      omega (arith, ap ones c.flip.ensures, ones_clear _ c.args.far o, c.requires.1),
    )

pub flip-requires-2 : goal.flip-requires-2
flip-requires-2 c = c.beside-d.ensures.small

pub start-requires : goal.start-requires
start-requires c = (c.requires.0.wide, c.requires.0.room _ (c.requires.2 _ c.lowest-h.ensures.set))

pub returns : goal.returns
returns c =
    let o = c.lowest-h.ensures.set in
    stood_some _ _ _ _ _ _ _ _ _ _ _ _ o (c.requires.2 _ o) c.flip.ensures c.beside-d.ensures c.flip-2.ensures c.start.ensures
