-- `line_take::first_word` meets its contract, by the word that the text begins with. Assumes nothing.
use Rattle.line.specs.Text.{cube_word, two_word}
use Rattle.line_take.specs.Reads.{begins_is, word-cube, word_two, word-other}
use Rattle.line_take.proofs.first_word.Goals as goal

pub returns-then-starts_with : goal.returns-then-starts_with
returns-then-starts_with c = word-cube _ (begins_is cube_word c.args.text.now c.starts_with.ensures.value c.if-starts_with.true)

pub returns-then-starts_with-2 : goal.returns-then-starts_with-2
returns-then-starts_with-2 c =
    word_two _ (begins_is cube_word c.args.text.now c.starts_with.ensures.value c.if-starts_with.false)
    (begins_is two_word c.args.text.now c.starts_with-2.ensures.value c.if-starts_with-2.true)

pub returns : goal.returns
returns c =
    word-other _ (begins_is cube_word c.args.text.now c.starts_with.ensures.value c.if-starts_with.false)
    (begins_is two_word c.args.text.now c.starts_with-2.ensures.value c.if-starts_with-2.false)
