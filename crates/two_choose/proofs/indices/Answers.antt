use Rattle.two_math.specs.Loops.{chosen_none}
use Rattle.two_choose.specs.Masks.{chosen_added}
use Rattle.two_choose.proofs.indices.Goals as goal

pub loop-j-init : goal.loop-j-init
loop-j-init g c = chosen_none _ _

pub loop-j-preserved : goal.loop-j-preserved
loop-j-preserved g c =
    rw c.add_if-found.ensures (chosen_added c.loop-j.j c.test.result c.loop-j.invariant (λ e. rw e at c.test.ensures) (λ e. rw e at c.test.ensures))
