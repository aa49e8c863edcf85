-- `cube_plan::others` meets its contract. Assumes nothing.
use Rattle.std.proofs.Common.{ap, ◌∙◌, ℕ, ◌-◌, arith, pow_pos}
use Rattle.cube_math.specs.Masks.{less}
use Rattle.cube_plan.proofs.others.Goals as goal

pub overflow_sub-power : goal.overflow_sub-power
overflow_sub-power c = let some = pow_pos c.args.n in omega (arith, c.power.ensures)

pub returns : goal.returns
returns c = c.less.ensures ∙ ap (λ (p : ℕ). less (p - 1) c.args.doors) c.power.ensures
