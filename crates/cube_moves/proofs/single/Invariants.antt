-- `cube_moves::single` meets its contract. The loop's invariant: the row is the end of a path, from `here` on. Assumes nothing.
use Rattle.std.proofs.Common.{ℕ, List}
use Rattle.cube_math.specs.Single.{rank}
use Rattle.cube_rows.specs.Grid.{hops, Only}
use Rattle.cube_moves.specs.Lone.{Ends}
use Rattle.cube_moves.proofs.single.Given as goal

pub record Inv (free d j w i goal : ℕ) (g₀ g : List ℕ) (here : ℕ) : Type 0 where
  pub only : Only w j g₀ g
  pub ends : Ends free goal i d here (hops w g j)

abbrev pub invariant-loop-here : goal.invariant-loop-here
invariant-loop-here l = Inv l.fn.start.free l.d l.j l.w l.i l.goal l.initial.grid l.grid l.here

abbrev pub decreases-loop-here : goal.decreases-loop-here
decreases-loop-here l = rank l.goal l.here
