use Rattle.std.proofs.Common.{arith}
use Rattle.cube_math.specs.Masks.{at}
use Rattle.two_takeover.specs.Over.{Meets, met_found, meets_to, none_more}
use Rattle.two_takeover.proofs.met.Goals as goal

pub loop-i-init : goal.loop-i-init
loop-i-init c = λ j h. absurd (omega arith)

pub returns-then-meets : goal.returns-then-meets
returns-then-meets c =
    let a = c.args in
    met_found (at a.targets.now.blocks) (at a.targets.now.slots) (at a.gates.now.slots) a.gates.now.gated a.b a.x c.loop-i.i c.loop-i-test.true
    ((meets_to (at a.targets.now.blocks) (at a.targets.now.slots) (at a.gates.now.slots) a.gates.now.gated a.b a.x c.loop-i.i c.bit.ensures c.meets.ensures).so c.if-meets.true)

pub loop-i-preserved : goal.loop-i-preserved
loop-i-preserved c =
    let a = c.args in
    none_more (Meets (at a.targets.now.blocks) (at a.targets.now.slots) (at a.gates.now.slots) a.gates.now.gated a.b a.x) c.loop-i.i c.loop-i.invariant
    ((meets_to (at a.targets.now.blocks) (at a.targets.now.slots) (at a.gates.now.slots) a.gates.now.gated a.b a.x c.loop-i.i c.bit.ensures c.meets.ensures).not c.if-meets.false)

pub returns : goal.returns
returns c = record { found = λ i e. cc; none = λ e (i, h, m). c.loop-i.invariant i (omega arith) m }
