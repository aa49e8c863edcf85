use Rattle.std.proofs.Common.{length-set, arith}
use Rattle.two_write.specs.Blocks.{order_small}
use Rattle.two_takeover.specs.Tail.{tailing_goes, tailing_room, tailing_less, tailing_more, tail-short, tailed_there, tailed_step, who_small}
use Rattle.two_takeover.proofs.tail_of.Goals as goal

pub bounds-targets-who : goal.bounds-targets-who
bounds-targets-who c = who_small c.requires c.loop-who.invariant c.met.ensures c.in-Some.is

pub returns-then-slot-here : goal.returns-then-slot-here
returns-then-slot-here c =
    let i = c.loop-who.invariant in
    (tailed_there c.requires i c.met.ensures c.in-Some.is c.if-slot-here.true, omega (arith, tail-short c.requires i c.met.ensures), i.long)

pub bounds-slots-len : goal.bounds-slots-len
bounds-slots-len c = omega (arith, tail-short c.requires c.loop-who.invariant c.met.ensures)

pub returns-in-Some : goal.returns-in-Some
returns-in-Some c =
    let i = c.loop-who.invariant in
    (rw c.from-in-Some.ensures (tailed_step c.requires i c.met.ensures c.in-Some.is c.if-slot-here.false), omega (arith, tail-short c.requires i c.met.ensures), simp length-set i.long)

pub step-here-requires : goal.step-here-requires
step-here-requires c =
    let i = c.loop-who.invariant in
    (omega (arith, i.below, order_small c.requires.order), omega (arith, c.requires.goal, order_small c.requires.order), tailing_goes c.requires i c.met.ensures c.in_default.is)

pub bounds-slots-len-in-loop-who : goal.bounds-slots-len-in-loop-who
bounds-slots-len-in-loop-who c = omega (arith, tailing_room c.requires c.loop-who.invariant c.met.ensures _ c.step-here.ensures)

pub loop-who-smaller : goal.loop-who-smaller
loop-who-smaller c = tailing_less c.requires c.loop-who.invariant c.met.ensures _ c.step-here.ensures

pub loop-who-preserved : goal.loop-who-preserved
loop-who-preserved c = rw c.from-in-loop-who.ensures (tailing_more c.requires c.loop-who.invariant c.met.ensures _ c.in_default.is c.step-here.ensures)
