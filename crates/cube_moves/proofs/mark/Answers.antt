-- `cube_moves::mark` meets its contract. Assumes nothing.
use Rattle.std.proofs.Common.{◌≡◌, refl, ℕ, inr, arith}
use Rattle.cube_moves.specs.Cut.{marked-one}
use Rattle.cube_moves.proofs.mark.Goals as goal

pub returns-then-one_bit : goal.returns-then-one_bit
returns-then-one_bit c = marked-one _ _ (c.one_bit.ensures.only c.if-one_bit.true)

pub returns : goal.returns
returns c = inr ((λ i e. let p = c.one_bit.ensures.all i e in let q = c.if-one_bit.false in let z : ◌≡◌ {A = ℕ} 0 1 = cc in omega arith), refl)
