-- `cube_moves::beside` meets its contract. The loop's invariant: the doors behind which a target of the rows passed stands are taken. Assumes nothing.
use Rattle.std.proofs.Common.{◌≡◌, ℕ}
use Rattle.bits.specs.Bit.{bit}
use Rattle.cube_math.specs.Loops.{Taking}
use Rattle.cube_rows.specs.Grid.{target}
use Rattle.cube_moves.proofs.beside.Given as goal

pub record Inv (f shut m : ℕ) (to : ℕ → ℕ) (taken todo : ℕ) : Type 0 where
  pub sub : (j : ℕ) → bit j todo ≡ 1 → bit j m ≡ 1
  pub taking : Taking f shut m todo taken to

abbrev pub invariant-loop-j : goal.invariant-loop-j
invariant-loop-j l = Inv l.f l.shut l.m (target l.w l.grid) l.taken l.j-iterator.0
