-- `meta::steps::hop` meets its contract. Assumes nothing.
use Rattle.std.proofs.Common.{sym, ap, ◌∙◌, arith}
use Rattle.bits.specs.Bit.{flip}
use Rattle.meta_parts.specs.Meta.{class_bits, part_bits}
use Rattle.meta_parts.specs.Needs.{fine-sized}
use Rattle.meta.proofs.Turns.{turn_below, next_flips}
use Rattle.meta.proofs.Once.{next-there}
use Rattle.meta.proofs.steps.hop.Goals as goal

pub returns-then-u-t : goal.returns-then-u-t
returns-then-u-t c = let a = c.args in sym (next-there (class_bits a.size.0) (part_bits a.size.0) a.u a.t c.if-u-t.true)

pub turn-requires : goal.turn-requires
turn-requires c = record { fine = c.requires; other = c.if-u-t.false }

pub flip-requires : goal.flip-requires
flip-requires c =
    let n = c.args.size.0 in
    omega (
      arith,
      c.turn.ensures,
      turn_below (class_bits n) (part_bits n) (fine-sized c.requires) c.args.u c.args.t c.requires.source c.requires.target c.if-u-t.false,
      (fine-sized c.requires).narrow,
    )

pub returns : goal.returns
returns c =
    let n = c.args.size.0 in
    c.flip.ensures ∙ ap (flip c.args.u) c.turn.ensures
    ∙ sym (next_flips (class_bits n) (part_bits n) (fine-sized c.requires) c.args.u c.args.t c.requires.source c.requires.target c.if-u-t.false)
