-- `two_round::write_path` meets its contract: the path goes around, or is a part of a row. Assumes nothing.
use Rattle.std.proofs.Common.{sym, ◌∙◌}
use Rattle.two_round.specs.Paths.{written_around, written_inner}
use Rattle.two_round.proofs.write_path.Goals as goal

pub returns-then-j-around : goal.returns-then-j-around
returns-then-j-around c = written_around c.requires.0 _ _ _ _ _ _ (c.if-j-around.true ∙ c.around.ensures) c.write_round.ensures

pub returns : goal.returns
returns c = written_inner c.requires.0 _ _ _ _ _ _ _ (λ z. c.if-j-around.false (z ∙ sym c.around.ensures)) c.part_of-part.ensures c.write_slots.ensures
