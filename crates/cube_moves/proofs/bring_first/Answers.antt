-- `cube_moves::bring_first` meets its contract. Assumes nothing.
use Rattle.std.proofs.Common.{sym, ◌∙◌}
use Rattle.bits.specs.Laws.{bit-on, bit_off}
use Rattle.cube_moves.specs.Bring.{fetch_home, fetch_none, fetch_straight}
use Rattle.cube_moves.proofs.bring_first.Goals as goal

pub bring_home-used-requires : goal.bring_home-used-requires
bring_home-used-requires c =
    let o = c.requires.4 _ c.lowest-h.ensures.set in
    (c.requires.0, c.requires.1, c.requires.2.row _ o, c.requires.2.room _ o, c.requires.2.some _ o)

pub returns-then-home-ne0 : goal.returns-then-home-ne0
returns-then-home-ne0 c =
    let oh = c.lowest-h.ensures.set in
    fetch_home _ _ _ _ _ _ _ _ _ _ _ oh (c.requires.4 _ oh) c.bring_home-used.ensures c.flip.ensures

pub returns-then-bit : goal.returns-then-bit
returns-then-bit c = fetch_none _ _ _ _ _ _ _ c.if-home-ne0.false (bit-on _ _ (sym c.bit.ensures ∙ c.if-bit.true))

pub push-requires : goal.push-requires
push-requires c =
    let o = c.lowest-j.ensures.set in
    (c.requires.2.row _ o, c.requires.2.room _ o)

pub returns : goal.returns
returns c =
    fetch_straight _ _ _ _ _ _ _ _ _ _ c.if-home-ne0.false (bit_off _ _ (sym c.bit.ensures ∙ c.if-bit.false))
    c.lowest-j.ensures.set c.push.ensures c.flip-2.ensures
