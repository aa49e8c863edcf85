use Rattle.std.proofs.Common.{true, false, ◌-◌, ◌^◌}
use Rattle.cube_math.specs.Choose.{Chosen}
use Rattle.two_choose.proofs.indices.Given as goal

abbrev pub invariant-loop-j : goal.invariant-loop-j
invariant-loop-j g l = Chosen (λ j. goal.F-post g l.test j true) (λ j. goal.F-post g l.test j false) (2 ^ l.j - 1) l.found
