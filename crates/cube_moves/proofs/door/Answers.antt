-- `cube_moves::door` meets its contract. Assumes nothing.
use Rattle.std.proofs.Common.{ℕ, ◌≡◌, arith}
use Rattle.cube_moves.specs.Sort.{doored_one, doored_none}
use Rattle.cube_moves.proofs.door.Goals as goal

pub returns-then-one_bit : goal.returns-then-one_bit
returns-then-one_bit c = doored_one _ _ _ (c.one_bit.ensures.only c.if-one_bit.true)

pub returns : goal.returns
returns c = doored_none _ _ _ (λ i e. let p = c.one_bit.ensures.all i e in let q = c.if-one_bit.false in let z : ◌≡◌ {A = ℕ} 0 1 = cc in omega arith)
