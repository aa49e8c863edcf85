use Rattle.std.proofs.Common.{arith, Some}
use Rattle.std.proofs.Math.Path.{ap}
use Rattle.line_take.specs.Reads.{as_field, listing_start, listing_ends, listing_breaks, listing_full, listing_more}
use Rattle.line_take.proofs.all_fields.Goals as goal

pub loop-value-init : goal.loop-value-init
loop-value-init c = listing_start _ _ _ c.requires

pub returns-in_err-value : goal.returns-in_err-value
returns-in_err-value c = rw c.from_residual.ensures (listing_breaks _ _ _ c.loop-value.invariant c.in_err-value.ensures)

pub returns-then-out-n : goal.returns-then-out-n
returns-then-out-n c = listing_full _ _ _ c.loop-value.invariant (as_field (ap Some c.in-Item.is) c.in_ok-value.ensures) c.if-out-n.true

pub loop-value-smaller : goal.loop-value-smaller
loop-value-smaller c = omega (arith, (as_field (ap Some c.in-Item.is) c.in_ok-value.ensures).within)

pub loop-value-preserved : goal.loop-value-preserved
loop-value-preserved c = listing_more _ _ _ c.loop-value.invariant (as_field (ap Some c.in-Item.is) c.in_ok-value.ensures) c.if-out-n.false

pub returns : goal.returns
returns c = listing_ends _ _ _ c.loop-value.invariant (as_field (ap Some c.in_default.is) c.in_ok-value.ensures)
