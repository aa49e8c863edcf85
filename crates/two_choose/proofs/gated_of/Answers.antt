use Rattle.std.proofs.Common.{rules, refl, true, false}
use Rattle.cube_math.specs.Masks.{at}
use Rattle.two_gate.specs.Says.{Tells}
use Rattle.two_choose.specs.Masks.{chosen_to}
use Rattle.two_choose.specs.Choice.{IsGated, not_gated}
use Rattle.two_choose.proofs.gated_of.Goals as goal

pub returns : goal.returns
returns c =
    let a = c.args in
    let k = a.targets.now.count in
    let blocks = at a.targets.now.blocks in
    chosen_to (λ j o p. let t : Tells (IsGated a.s0 k blocks a.kept j) true = search rules in t.so refl)
    (λ j o p. let t : Tells (IsGated a.s0 k blocks a.kept j) false = search rules in not_gated a.s0 k blocks a.kept j (t.not refl)) c.indices.ensures
