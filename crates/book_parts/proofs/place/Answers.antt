use Rattle.book_parts.specs.Place.{halving_starts, halving_high, halving_low, halving_ends}
use Rattle.book_parts.proofs.place.Goals as goal

pub loop-left-init : goal.loop-left-init
loop-left-init c = halving_starts _ _ _ c.requires

pub loop-left-preserved-then-index-from : goal.loop-left-preserved-then-index-from
loop-left-preserved-then-index-from c = halving_high c.loop-left.invariant c.loop-left-test.true c.if-index-from.true

pub loop-left-preserved : goal.loop-left-preserved
loop-left-preserved c = halving_low c.loop-left.invariant c.loop-left-test.true c.if-index-from.false

pub returns : goal.returns
returns c = halving_ends c.loop-left.invariant c.loop-left-test.false
