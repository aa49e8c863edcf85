use Rattle.std.proofs.Common.{take}
use Rattle.book.specs.Closed.{slid}
use Rattle.book_close.specs.Slides.{following_starts, following_more, following_ends}
use Rattle.book_close.proofs.close_index.Goals as goal

pub loop-i-init : goal.loop-i-init
loop-i-init c = (c.requires.0, following_starts (slid (take c.args.end c.args.bytes.now)) c.args.index.now c.args.n c.requires.1)

pub loop-i-preserved : goal.loop-i-preserved
loop-i-preserved c = (c.loop-i.invariant.0, following_more c.loop-i.invariant.1 c.loop-i-test.true c.moved.ensures)

pub returns : goal.returns
returns c = following_ends c.loop-i.invariant.1 c.loop-i-test.false
